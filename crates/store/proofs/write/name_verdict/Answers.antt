use Rattle.std.proofs.Common.{◌≡◌, sym, ◌∙◌, Bool, false, List, ℕ, ◌+◌, ◌^◌, length, ltb, leb, add-zero}
use Rattle.sizes.specs.Basics.{pick}
use Rattle.grammar.specs.Layout.{any_bytes, suits}
use Rattle.store.specs.declared.Name.{Name}
use Rattle.store.specs.Fields.{lent}
use Rattle.store.specs.Put.{content_verdict, text_verdict}
use Rattle.store.proofs.write.name_verdict.Goals as goal

verdict_of : (w : ℕ) (s : List ℕ) (n : Name) {short inside : Bool} → short ≡ ltb n.length (256 ^ w) → inside ≡ leb (n.place + n.length + 0) (length s)
    → pick short (pick inside 0 2) 7 ≡ text_verdict w any_bytes s (lent n)
unfolding text_verdict content_verdict suits pick
verdict_of w s n e i = rw (e, i, add-zero)

long_of : (w : ℕ) (s : List ℕ) (n : Name) {short : Bool} → short ≡ ltb n.length (256 ^ w) → short ≡ false → 7 ≡ text_verdict w any_bytes s (lent n)
unfolding text_verdict content_verdict suits pick
long_of w s n e z = rw (sym e ∙ z)

pub returns-then-not-says : goal.returns-then-not-says
returns-then-not-says c = long_of _ c.args.names.now c.args.n c.says.ensures c.if-not-says.true

pub returns : goal.returns
unfolding pick
returns c = c.unless.ensures.code ∙ rw c.if-not-says.false at (verdict_of _ c.args.names.now c.args.n c.says.ensures c.fits.ensures)
