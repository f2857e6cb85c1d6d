-- All leaves of a dimension get what each gets by itself.
use Rattle.std.specs.Prelude.{◌≡◌, refl, Bool, true, false, List, ℕ, ◌*◌, ◌<◌, length, take, drop, eqb, leb, ltb}
use Rattle.std.proofs.Common.{arith}
use Rattle.sizes.specs.Sizes.{leaf_total_words}
use Rattle.sizes.specs.Basics.{pick}
use Rattle.grammar.specs.Layout.{Tree}
use Rattle.grammar.specs.Laws.Layout.Read.{Got, got, no}
use Rattle.grammar.specs.Member.{Member, dimensions, nodes, cells}
use Rattle.grammar.specs.Laws.Member.Checked.{checked}
use Rattle.answer.specs.Answer.{wide, long}
use Rattle.total.specs.declared.DimensionTotals.{DimensionTotals}
use Rattle.total.specs.Words.{leaf_words}
use Rattle.total.specs.Answers.{member_first, leaf_answer_of, total_answer, refused_all_answer, leaves, dimension_answer, totals_answer, totals_after, AllTotalled}
use Rattle.total.specs.Laws.Rows.{row_at}

-- with rows for so many leaves nothing was refused before them
fine : (is_IsWide is-long is-there fits : Bool) (k m n leaf : ℕ) → let r = pick is_IsWide (pick is-long (pick is-there (pick fits (refused_all_answer 0 0 k m n) (refused_all_answer 15 0 0 0 n)) (refused_all_answer 19 0 0 0 0)) (refused_all_answer 13 0 k m 0)) (refused_all_answer 12 0 k m 0) in
    r.refusal ≡ 0 → leaf < r.leaves → (is_IsWide ≡ true) × (is-long ≡ true) × (leaf < n)
unfolding pick
fine true true true true k m n leaf e l = (refl, refl, l)
fine true true true false k m n leaf e l = absurd (omega (arith, e))
fine true true false f k m n leaf e l = absurd (omega (arith, l))
fine true false i f k m n leaf e l = absurd (omega (arith, l))
fine false w i f k m n leaf e l = absurd (omega (arith, l))

-- row `leaf` of the totals is what `total` answers for it, with areas of the same lengths
pub one_by_one : {bs T N C : List ℕ} {dimension : ℕ} {r : DimensionTotals} {T' N' C' : List ℕ} → AllTotalled bs T N C dimension r T' N' C' → r.refusal ≡ 0 → (leaf : ℕ) → leaf < r.leaves
    → take leaf_total_words (drop (leaf_total_words * leaf) T') ≡ leaf_words (total_answer (checked bs) (length N) (length C) dimension leaf)
unfolding totals_answer dimension_answer totals_after total_answer member_first pick
one_by_one {bs} {T} {N} {C} {dimension} {r} {T'} x e leaf l = go (checked bs) x.answer x.each_leaf
  where
    go : (y : Got (Tree Member)) → r ≡ totals_answer y dimension (length T) (length N) (length C) → T' ≡ pick (eqb r.refusal 0) (totals_after y dimension T) T
        → take leaf_total_words (drop (leaf_total_words * leaf) T') ≡ leaf_words (total_answer y (length N) (length C) dimension leaf)
    go (no n p) a t = absurd (let z : leaf < 0 = rw a at l in omega arith)
    go (got t rest p) a f =
        let n = leaves t dimension in
        let h = fine (wide t (length N)) (long t (length C)) (ltb dimension (length (dimensions t))) (leb (leaf_total_words * n) (length T)) (nodes t) (length (cells t)) n leaf (rw a at e) (rw a at l) in
        rw (h.0, h.1, f, e) (row_at leaf_total_words (λ j. leaf_words (leaf_answer_of t dimension j)) (λ _. refl) n (drop (leaf_total_words * n) T) leaf h.2)
