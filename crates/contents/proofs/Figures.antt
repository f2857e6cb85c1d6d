-- The figure of a form that was read, or refused.
use Rattle.std.specs.Prelude.{◌≡◌, refl, false, List, ℕ, Result, Ok, Err}
use Rattle.refusals.specs.declared.Refusal.{Refusal}
use Rattle.refusals.specs.Numbers.{by_number}
use Rattle.sizes.specs.Sizes.{below_value}
use Rattle.grammar.specs.Layout.{Bytes}
use Rattle.grammar.specs.Value.{cell_zeros, ValueIn}
use Rattle.layout.specs.Reads.{skip}
use Rattle.fields.specs.Gives.{ShowsValue}
use Rattle.fields.specs.Laws.Shows.{refused_shows}
use Rattle.contents.specs.declared.RawValue.{RawValue}
use Rattle.contents.specs.declared.figure.Figure.{Figure}
use Rattle.contents.specs.Contents.{none, raw, said, Raw, raw_says}
use Rattle.contents.specs.Answers.{unread}
use Rattle.contents.specs.Laws.Answers.{value_answer}
use Rattle.contents.specs.Laws.Figure.{figure, figure_said}
use Rattle.contents.proofs.Laws.Figure.{figure_read}

pub figure_value : (version : ℕ) {s : List ℕ} (bs : Bytes s) (q : Result ℕ Refusal) (r : Result (RawValue × ℕ) Refusal) {n : ℕ} {z : Figure} → unread version s ≡ 0 → n ≡ cell_zeros version
    → ShowsValue (Raw version) (said (Raw version) (raw_says version (ValueIn version below_value))) (λ x. x) s q r → by_number q ≡ skip 0 n s (Ok 0)
    → z ≡ figure_said r → z ≡ figure (value_answer version s).raw
figure_value version bs q (Ok y) known e h f i = figure_read version bs known e h f i
figure_value version bs q (Err x) known e h f i =
    figure_read version bs {y = raw 0 0 0 0 false none none none none none 0 0} known e (refused_shows refl h) f i
