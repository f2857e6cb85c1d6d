-- A call that wrote the sections of a look, by what the writer gave; and one whose area for the answer was too short.
use mathlib.Core.Path.{◌≡◌, refl, sym, ◌∙◌}
use mathlib.Core.Bool.{true, false, false≢true}
use mathlib.Core.List.{List}
use Prim.Native.Nat.{ℕ}
use lib.ListN.{length}
use lib.Dec.{leb}
use Rattle.sizes.specs.Sizes.{write_answer_words}
use Rattle.store.specs.Written.{Written}
use Rattle.store.specs.Puts.{AtFront}
use Rattle.look_sections.specs.Writing.{Wrote}
use Rattle.look_sections.proofs.Laws.Calls.{reach_within}
use Rattle.written_words.specs.Encodings.{answer_words}
use Rattle.written_words.specs.Sections.{Sectioned}
use Rattle.written_words.proofs.Rewrite.{stored_same}

pub sectioned : {s out answer : List ℕ} {v : Written} {n : ℕ} {out' answer' : List ℕ} → leb write_answer_words (length answer) ≡ true → Wrote s out v out'
    → AtFront write_answer_words (answer_words v) answer n answer' → Sectioned s out answer n out' answer'
sectioned {v = v} t call x = record {
  asked = λ _. record { written = v; wrote = call; words = rw (stored_same v (reach_within call)) at x };
  not_asked = λ f. absurd (false≢true (sym f ∙ t));
}

pub not_sectioned : {s out answer : List ℕ} → leb write_answer_words (length answer) ≡ false → Sectioned s out answer 0 out answer
not_sectioned f = record { asked = λ t. absurd (false≢true (sym f ∙ t)); not_asked = λ _. (refl, refl, refl) }
