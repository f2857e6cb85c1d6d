-- The float that is nearest to a whole number is one.
use Rattle.std.proofs.Common.{ℕ, zero, suc, ◌+◌, ◌-◌, ◌*◌, ◌/◌, ◌%◌, ◌^◌, Bool, true, false, cond, not, T, ltb, pos}
use Prim.Native.Nat.{compare}
use lib.Ieee.{Format, low, prec, emax, size, nearest, is_nan, inf, odd, units, of_int}
use lib.Ieee.Fits.{core, round_is}

odd_number : (d : ℕ) (s : Bool) (q k l : ℕ) → T (not (is_nan (odd d s q k l)))
unfolding odd is_nan
odd_number d s zero k l = tt
odd_number d s (suc q) k l = tt

either_number : (b : Bool) (d : ℕ) (s : Bool) (q k l : ℕ) → T (not (is_nan (cond b (odd d s q k l) (inf s))))
unfolding is_nan
either_number true d s q k l = odd_number d s q k l
either_number false d s q k l = tt

units_number : (f : Format) (s : Bool) (q k : ℕ) → T (not (is_nan (units f s q k)))
unfolding units
units_number f s q k = either_number (ltb (q * 2 ^ k) (2 ^ (low f + suc (emax f)))) (suc (prec f)) s q k (low f)

core_number : (f : Format) (s : Bool) (n d k : ℕ) → T (not (is_nan (core f s n d k)))
core_number f s n d k = units_number f s (nearest (n / (d * 2 ^ k)) (compare (n % (d * 2 ^ k) * 2) (d * 2 ^ k))) k

pub whole_number : (f : Format) (n : ℕ) → T (not (is_nan (of_int f (pos n))))
unfolding of_int
whole_number f n = rw (round_is f false n 1) (core_number f false (n * 2 ^ low f) 1 (size (n * 2 ^ low f / 1) - prec f))
