-- A call with room for the answer, and one without.
use Rattle.std.specs.Prelude.{◌≡◌, refl, Bool, true, false, List, ℕ, length, leb}
use Rattle.std.proofs.Common.{arith}
use Rattle.sizes.specs.Sizes.{total_answer_words, totals_answer_words}
use Rattle.layout.specs.Step.{Step}
use Rattle.std.specs.Prelude.{Ok}
use Rattle.store.specs.Puts.{PutsWordsTo}
use Rattle.store.specs.Laws.Puts.{with_room, without_room}
use Rattle.grammar.specs.Laws.Member.Checked.{checked}
use Rattle.total.specs.declared.LeafTotal.{LeafTotal}
use Rattle.total.specs.declared.DimensionTotals.{DimensionTotals}
use Rattle.total.specs.Words.{answer_words_of, dimension_words_of}
use Rattle.total.specs.Answers.{total_answer, Totalled, ByDerivation, totals_answer, AllTotalled, AllByDerivation}
use Rattle.total.specs.Calls.{TotalRead, TotalsRead}

no_both : {A : Type 0} (b : Bool) → b ≡ true → b ≡ false → A
no_both b e f = absurd (let z : ◌≡◌ {A = ℕ} 0 1 = cc in omega arith)

module _ (bs answer nodes cells : List ℕ) (dimension leaf : ℕ) where
  pub read : (x : LeafTotal) {answer' nodes' cells' : List ℕ} {r : Step} → leb total_answer_words (length answer) ≡ true → Totalled bs nodes cells dimension leaf x nodes' cells'
      → ByDerivation bs nodes cells dimension leaf x nodes' cells' → PutsWordsTo (answer_words_of x) answer (Ok 0) answer' r → TotalRead bs answer nodes cells dimension leaf total_answer_words answer' nodes' cells'
  read x t d m p =
      record {
        words = rw (← d.answer) (with_room total_answer_words (answer_words_of x) answer refl t p);
        called = λ _. rw (← d.answer) d;
        demands = λ _. rw d.answer at m;
        not_called = λ f. no_both _ t f;
      }

  pub not_read : leb total_answer_words (length answer) ≡ false → TotalRead bs answer nodes cells dimension leaf 0 answer nodes cells
  not_read t =
      record {
        words = without_room total_answer_words (answer_words_of (total_answer (checked bs) (length nodes) (length cells) dimension leaf)) answer t;
        called = λ f. no_both _ f t;
        demands = λ f. no_both _ f t;
        not_called = λ _. (refl, refl);
      }

module _ (bs answer totals nodes cells : List ℕ) (dimension : ℕ) where
  pub read_all : (x : DimensionTotals) {answer' totals' nodes' cells' : List ℕ} {r : Step} → leb totals_answer_words (length answer) ≡ true → AllTotalled bs totals nodes cells dimension x totals' nodes' cells'
      → AllByDerivation bs totals nodes cells dimension x totals' nodes' cells' → PutsWordsTo (dimension_words_of x) answer (Ok 0) answer' r → TotalsRead bs answer totals nodes cells dimension totals_answer_words answer' totals' nodes' cells'
  read_all x t d m p =
      record {
        words = rw (← d.answer) (with_room totals_answer_words (dimension_words_of x) answer refl t p);
        called = λ _. rw (← d.answer) d;
        demands = λ _. rw d.answer at m;
        not_called = λ f. no_both _ t f;
      }

  pub none_read : leb totals_answer_words (length answer) ≡ false → TotalsRead bs answer totals nodes cells dimension 0 answer totals nodes cells
  none_read t =
      record {
        words = without_room totals_answer_words (dimension_words_of (totals_answer (checked bs) dimension (length totals) (length nodes) (length cells))) answer t;
        called = λ f. no_both _ f t;
        demands = λ f. no_both _ f t;
        not_called = λ _. (refl, refl, refl);
      }
