-- a name without a refusal lies inside
use mathlib.Core.Path.{◌≡◌, sym, ◌∙◌}
use mathlib.Core.List.{List}
use Prim.Native.Nat.{ℕ}
use native.Mathlib.Omega.{arith}
use borrow.Author.Tests.{le-leb}
use lib.ListN.{length}
use Rattle.sizes.specs.Basics.{pick}
use Rattle.grammar.specs.Layout.{Content}
use Rattle.grammar.specs.Part.{part_of}
use Rattle.store.specs.declared.Name.{Name}
use Rattle.store.specs.Fields.{lent, bytes_of, text_of}
use Rattle.store.specs.Put.{text_verdict}
use Rattle.store.specs.Laws.Verdicts.{TextCase, text_good, text_longer, text_out, text_bad, text_case}
use Rattle.store.specs.Laws.Puts.{text_puts}
use Rattle.store.proofs.write.name.Goals as goal

part_there : (w : ℕ) (c : Content) (s : List ℕ) (n : Name) → text_verdict w c s (lent n) ≡ 0 → part_of s n.place n.length ≡ text_of s (lent n)
unfolding part_of text_of bytes_of pick
part_there w c s n = go (text_case w c s (lent n))
  where
    go : {v : ℕ} → TextCase w c s (lent n) v → v ≡ 0 → part_of s n.place n.length ≡ text_of s (lent n)
    go (text_good l i q) e = rw (le-leb _ (length s) i)
    go (text_longer l) e = absurd (omega arith)
    go (text_out l i) e = absurd (omega arith)
    go (text_bad l i q) e = absurd (omega arith)

pub returns : goal.returns
returns c =
    let v = c.name_verdict-verdict.ensures in
    let a = c.args in
    text_puts tt v (λ z. c.part-text.ensures ∙ part_there _ _ a.names.now a.n (sym v ∙ z)) c.string_field.ensures
