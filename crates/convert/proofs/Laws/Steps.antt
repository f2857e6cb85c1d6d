-- A text is converted one character after the other.
use Rattle.std.specs.Prelude.{◌≡◌, get_or, drop}
use Rattle.std.proofs.Math.Path.{refl}
use Rattle.std.proofs.Common.{ap, ◌∙◌, lt-ltb, le-ltb}
use mathlib.Core.List.{List, [], ◌∷◌, ◌++◌}
use Prim.Native.Nat.{ℕ, zero, suc, ◌+◌, ◌-◌, ◌≤◌, ◌<◌}
use native.Mathlib.Omega.{arith}
use Rattle.std.proofs.Math.ListN.{length}
use Rattle.sizes.specs.Basics.{pick}
use Rattle.convert.specs.Pages.{no_code_point, no_byte, code_point, byte}
use Rattle.convert.specs.Utf8.{encode, decode}
use Rattle.convert.specs.Convert.{Step, invalid, converts, encoded, decoded, to, from, valid_up_to, output}

-- ---- any direction

module _ (f : List ℕ → Step) where
  up_to_skip : (s p : ℕ) (u : List ℕ) → s ≤ length u → valid_up_to f s p u ≡ valid_up_to f 0 (p + s) (drop s u)
  unfolding valid_up_to
  up_to_skip zero p u h = let e : p + 0 ≡ p = omega arith in rw e
  up_to_skip (suc s) p [] h = absurd (omega arith)
  up_to_skip (suc s) p (a ∷ u) h = let e : p + suc s ≡ suc p + s = omega arith in rw e (up_to_skip s (suc p) u (omega arith))

  output_skip : (s : ℕ) (u : List ℕ) → output f s u ≡ output f 0 (drop s u)
  unfolding output
  output_skip zero u = refl
  output_skip (suc s) [] = refl
  output_skip (suc s) (a ∷ u) = output_skip s u

  up_to_first : (p a : ℕ) (u : List ℕ) (n : ℕ) (o : List ℕ) → f (a ∷ u) ≡ converts n o → valid_up_to f 0 p (a ∷ u) ≡ valid_up_to f n (suc p) u
  unfolding valid_up_to
  up_to_first p a u n o e = rw (e, valid_up_to)

  output_first : (a : ℕ) (u : List ℕ) (n : ℕ) (o : List ℕ) → f (a ∷ u) ≡ converts n o → output f 0 (a ∷ u) ≡ o ++ output f n u
  unfolding output
  output_first a u n o e = rw (e, output)

  pub up_to_step : (p : ℕ) (u : List ℕ) (n : ℕ) (o : List ℕ) → f u ≡ converts n o → suc n ≤ length u → valid_up_to f 0 p u ≡ valid_up_to f 0 (p + suc n) (drop (suc n) u)
  up_to_step p [] n o e h = absurd (omega arith)
  up_to_step p (a ∷ u) n o e h = let z : p + suc n ≡ suc p + n = omega arith in rw z (up_to_first p a u n o e ∙ up_to_skip n (suc p) u (omega arith))

  pub output_step : (u : List ℕ) (n : ℕ) (o : List ℕ) → f u ≡ converts n o → suc n ≤ length u → output f 0 u ≡ o ++ output f 0 (drop (suc n) u)
  output_step [] n o e h = absurd (omega arith)
  output_step (a ∷ u) n o e h = output_first a u n o e ∙ ap (λ (x : List ℕ). o ++ x) (output_skip n u)

  pub up_to_invalid : (p : ℕ) (u : List ℕ) → f u ≡ invalid → valid_up_to f 0 p u ≡ p
  unfolding valid_up_to
  up_to_invalid p [] e = refl
  up_to_invalid p (a ∷ u) e = rw (e, valid_up_to)

  pub output_invalid : (u : List ℕ) → f u ≡ invalid → output f 0 u ≡ []
  unfolding output
  output_invalid [] e = refl
  output_invalid (a ∷ u) e = rw (e, output)

  pub up_to_end : (p : ℕ) → valid_up_to f 0 p [] ≡ p
  unfolding valid_up_to
  up_to_end p = refl

  pub output_end : output f 0 [] ≡ []
  unfolding output
  output_end = refl

  pub up_to_most : (s p : ℕ) (u : List ℕ) → valid_up_to f s p u ≤ p + length u
  unfolding valid_up_to
  up_to_most s p [] = omega arith
  up_to_most zero p (a ∷ u) = by (f (a ∷ u)) (λ s. up_to_most s (suc p) u)
    where
      by : (x : Step) → ((s : ℕ) → valid_up_to f s (suc p) u ≤ suc p + length u) → elim x [ invalid ↦ p | converts n o ↦ valid_up_to f n (suc p) u ] ≤ p + suc (length u)
      by invalid ih = omega arith
      by (converts n o) ih = omega (arith, ih n)
  up_to_most (suc s) p (a ∷ u) = omega (arith, up_to_most s (suc p) u)

-- ---- a step of either direction

pub to_converts : (k : ℕ) (u : List ℕ) (c : ℕ) → code_point k (get_or u 0 0) ≡ c → c < no_code_point → to k u ≡ converts 0 (encode c)
unfolding to encoded pick
to_converts k u c e h = rw (e, lt-ltb c no_code_point h)

pub to_invalid : (k : ℕ) (u : List ℕ) (c : ℕ) → code_point k (get_or u 0 0) ≡ c → no_code_point ≤ c → to k u ≡ invalid
unfolding to encoded pick
to_invalid k u c e h = rw (e, le-ltb c no_code_point h)

pub from_converts : (k : ℕ) (u : List ℕ) (c b : ℕ) → decode u ≡ c → byte k c ≡ b → b < no_byte → from k u ≡ converts (length (encode c) - 1) (b ∷ [])
unfolding from decoded pick
from_converts k u c b e q h = rw (e, q, lt-ltb b no_byte h)

pub from_invalid : (k : ℕ) (u : List ℕ) (c b : ℕ) → decode u ≡ c → byte k c ≡ b → no_byte ≤ b → from k u ≡ invalid
unfolding from decoded pick
from_invalid k u c b e q h = rw (e, q, le-ltb b no_byte h)
