-- The smallest and the largest are doubles of whole numbers, and no NaN.
use Rattle.std.specs.Prelude.{Bool, true, false, not, cond, T, ltb, Float, Option, None, Some}
use Prim.Native.Nat.{ℕ, zero, suc, ◌+◌, ◌-◌, ◌*◌, ◌/◌, ◌%◌, ◌^◌, compare}
use Rattle.std.specs.Float.{inf, Format, binary64}
use Rattle.std.specs.Float.Ieee.{prec, emax, low, size, nearest, odd, units, round, of_int, is_nan}
use Rattle.sizes.specs.Basics.{pick}
use Rattle.grammar.specs.Layout.{Tree}
use Rattle.grammar.specs.Laws.Layout.Read.{Got, got, no}
use Rattle.grammar.specs.Member.{Member}
use Rattle.answer.specs.Answer.{wide, long}
use Rattle.total.specs.declared.sums.Sums.{Sums}
use Rattle.total.specs.declared.LeafTotal.{LeafTotal}
use Rattle.total.specs.Total.{leaf_sums}
use Rattle.total.specs.Answers.{member_first, double, refused, unless_bad, answered, there, leaf_answer_of, total_answer}

odd_number : (d : ℕ) (s : Bool) (q k l : ℕ) → T (not (is_nan (odd d s q k l)))
unfolding odd is_nan
odd_number d s zero k l = tt
odd_number d s (suc q) k l = tt

either_number : (b : Bool) (x y : Float) → T (not (is_nan x)) → T (not (is_nan y)) → T (not (is_nan (cond b x y)))
either_number true x y h k = h
either_number false x y h k = k

units_number : (f : Format) (s : Bool) (q k : ℕ) → T (not (is_nan (units f s q k)))
unfolding units is_nan
units_number f s q k = either_number (ltb (q * 2 ^ k) (2 ^ (low f + suc (emax f)))) (odd (suc (prec f)) s q k (low f)) (inf s) (odd_number (suc (prec f)) s q k (low f)) tt

round_number : (f : Format) (s : Bool) (n d : ℕ) → T (not (is_nan (round f s n d)))
unfolding round
round_number f s n d =
    let m = n * 2 ^ low f in
    let k = size (m / d) - prec f in
    let u = d * 2 ^ k in
    units_number f s (nearest (m / u) (compare (m % u * 2) u)) k

double_number : (n : ℕ) → T (not (is_nan (double n)))
unfolding of_int
double_number n = round_number binary64 false n 1

pub record Numbers (x : LeafTotal) : Type 0 where
  pub smallest : T (not (is_nan x.smallest))
  pub largest : T (not (is_nan x.largest))

refused_numbers : (n p node-count cell-count : ℕ) → Numbers (refused n p node-count cell-count)
refused_numbers n p node-count cell-count = record { smallest = double_number 0; largest = double_number 0 }

either_numbers : (b : Bool) (x y : LeafTotal) → Numbers x → Numbers y → Numbers (pick b x y)
unfolding pick
either_numbers true x y h k = h
either_numbers false x y h k = k

unless_bad_numbers : (o : Option ℕ) (x : LeafTotal) → Numbers x → Numbers (unless_bad o x)
unless_bad_numbers (Some place) x h = refused_numbers 20 place 0 0
unless_bad_numbers None x h = h

pub answered_numbers : (node-count cell-count : ℕ) (s : Sums) → Numbers (answered node-count cell-count s)
answered_numbers node-count cell-count s =
    unless_bad_numbers s.bad _ (record { smallest = double_number s.smallest; largest = double_number s.largest })

leaf_numbers : (t : Tree Member) (dimension leaf : ℕ) → Numbers (leaf_answer_of t dimension leaf)
unfolding leaf_answer_of
leaf_numbers t dimension leaf = either_numbers (there t dimension leaf) _ _ (answered_numbers _ _ (leaf_sums t dimension leaf)) (refused_numbers 19 0 0 0)

pub total_numbers : (y : Got (Tree Member)) (node_length cell_length dimension leaf : ℕ) → Numbers (total_answer y node_length cell_length dimension leaf)
unfolding total_answer member_first
total_numbers (no n p) node_length cell_length dimension leaf = refused_numbers n p 0 0
total_numbers (got t r p) node_length cell_length dimension leaf =
    either_numbers (wide t node_length) _ _ (either_numbers (long t cell_length) _ _ (leaf_numbers t dimension leaf) (refused_numbers 13 0 _ _)) (refused_numbers 12 0 _ _)
