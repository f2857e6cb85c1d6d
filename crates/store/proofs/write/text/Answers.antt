use Rattle.std.proofs.Common.{◌≡◌, refl, ◌∙◌, Bool, List, ℕ, ◌^◌, length, ltb}
use Rattle.sizes.specs.Basics.{pick}
use Rattle.grammar.specs.Layout.{any_bytes, suits}
use Rattle.layout.specs.Steps.Slices.{bytes_of}
use Rattle.store.specs.Fields.{letters, text_of}
use Rattle.store.specs.Put.{content_verdict, text_verdict}
use Rattle.store.specs.Laws.Puts.{text_puts}
use Rattle.store.proofs.write.text.Goals as goal

verdict_of : (w : ℕ) (s xs : List ℕ) {short : Bool} → short ≡ ltb (length xs) (256 ^ w) → pick short 0 7 ≡ text_verdict w any_bytes s (letters xs)
unfolding text_verdict content_verdict suits pick
verdict_of w s xs e = rw e

pub returns : goal.returns
unfolding text_of
returns c =
    let xs = c.args.text.now in
    record {
      any = λ s. text_puts (bytes_of xs c.type_inv.text) (c.unless-verdict.ensures.code ∙ verdict_of _ s xs c.says.ensures) (λ z. refl) c.string_field.ensures;
    }
