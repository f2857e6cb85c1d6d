-- The law of the product.
use Rattle.std.specs.Prelude.{◌≡◌, true, ◌||◌, List, [], ◌∷◌, ℕ, zero, suc, eqb}
use Rattle.std.proofs.lemmas.Bool.{false≢true}
use Rattle.std.proofs.Common.{mul-zero, zero-mul, arith, ne_eqb}
use Rattle.sizes.specs.Basics.{among}
use Rattle.grammar.specs.Index.{product}

-- Zero: a product with a factor 0 is 0, whatever the others are
pub product_zero : (ns : List ℕ) → among 0 ns ≡ true → product ns ≡ 0
unfolding product among
product_zero [] e = absurd (false≢true e)
product_zero (zero ∷ ns) e = zero-mul (product ns)
product_zero (suc n ∷ ns) e =
    let f : (eqb 0 (suc n) || among 0 ns) ≡ true = e in
    rw (product_zero ns (rw (ne_eqb 0 (suc n) (λ z. omega arith)) at f)) (mul-zero (suc n))
