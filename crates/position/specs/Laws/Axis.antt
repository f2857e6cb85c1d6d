-- One axis: coordinates below their n and positions below the axis's product, each the other's inverse.
use Rattle.std.specs.Prelude.{◌≡◌, refl, true, false, List, [], ◌∷◌, ℕ, zero, suc, ◌+◌, ◌*◌, ◌/◌, ◌%◌, ◌≤◌, ◌<◌, eqb}
use Rattle.std.proofs.Common.{◌∙◌, zero-mul, mul_comm, mul-le-mul_left, mul-suc, mod-lt, div-lt_iff_lt-mul, mod-eq_of_lt, add-zero, arith, eq-eqb}
use Rattle.std.proofs.Math.Nat.{div-add-mod, mul-add-div, mul-add-mod_self_left, div-eq_of_lt}
use Rattle.sizes.specs.Basics.{among, pick}
use Rattle.grammar.specs.Once.{Distinct}
use Rattle.grammar.specs.Index.{product}
use Rattle.position.specs.Axes.{position_on, span, coordinate_on}
use Rattle.position.specs.Laws.Among.{none_among, first_among, later_among, first_or_later, apart}

-- each coordinate is below its n
abbrev pub Inside : (ℕ → ℕ) → (ℕ → ℕ) → List ℕ → Type 0
Inside n x ds = (e : ℕ) → among e ds ≡ true → x e < n e

-- the same coordinates
abbrev pub Same : (ℕ → ℕ) → (ℕ → ℕ) → List ℕ → Type 0
Same x y ds = (e : ℕ) → among e ds ≡ true → x e ≡ y e

step_below : (n p k x : ℕ) → k < p → x < n → n * k + x < n * p
step_below n p k x h l =
    let q : n * suc k ≤ n * p = mul-le-mul_left n (omega arith) in
    let r : n * suc k ≡ n * k + n = mul-suc n k in
    omega arith

-- Below: coordinates below their n have a position below the axis's product
pub position_below : (n x : ℕ → ℕ) (ds : List ℕ) → Inside n x ds → position_on n x ds < span n ds
unfolding position_on product
position_below n x [] h = omega arith
position_below n x (d ∷ ds) h =
    step_below (n d) (span n ds) (position_on n x ds) (x d) (position_below n x ds (λ e m. h e (later_among e d ds m))) (h d (first_among d ds))

-- Same: a position depends on the coordinates of the axis's own dimensions alone
pub position_same : (n x y : ℕ → ℕ) (ds : List ℕ) → Same x y ds → position_on n x ds ≡ position_on n y ds
unfolding position_on
position_same n x y [] h = refl
position_same n x y (d ∷ ds) h = rw (h d (first_among d ds), position_same n x y ds (λ e m. h e (later_among e d ds m)))

positive : (n p k : ℕ) → k < n * p → 0 < n
positive zero p k h = absurd (let e : 0 * p ≡ 0 = zero-mul p in omega arith)
positive (suc n) p k h = omega arith

quotient : (n p k : ℕ) → k < n * p → k / n < p
quotient n p k h = (div-lt_iff_lt-mul {k = n} {x = k} {y = p} (positive n p k h)).1 (rw (mul_comm p n) h)

at_first : (n : ℕ → ℕ) (d : ℕ) (ds : List ℕ) (k : ℕ) → coordinate_on n (d ∷ ds) k d ≡ k % n d
unfolding coordinate_on pick
at_first n d ds k = rw (eq-eqb d d refl)

at_later : (n : ℕ → ℕ) (d : ℕ) (ds : List ℕ) (k e : ℕ) → eqb e d ≡ false → coordinate_on n (d ∷ ds) k e ≡ coordinate_on n ds (k / n d) e
unfolding coordinate_on pick
at_later n d ds k e h = rw h

-- Inside: the coordinates of a position below the axis's product are below their n
pub coordinate_inside : (n : ℕ → ℕ) (ds : List ℕ) (k : ℕ) → k < span n ds → Inside n (coordinate_on n ds k) ds
unfolding product
coordinate_inside n [] k h e m = none_among e m
coordinate_inside n (d ∷ ds) k h e m =
    first_or_later e d ds m
    (λ q. rw (q, at_first n d ds k) (mod-lt k (positive (n d) (span n ds) k h)))
    (λ q l. rw (at_later n d ds k e q) (coordinate_inside n ds (k / n d) (quotient (n d) (span n ds) k h) e l))

-- Round: the position of a position's coordinates is the position
pub position_coordinate : (n : ℕ → ℕ) (ds : List ℕ) (k : ℕ) → Distinct ds → k < span n ds → position_on n (coordinate_on n ds k) ds ≡ k
unfolding position_on product
position_coordinate n [] k o h = omega arith
position_coordinate n (d ∷ ds) k o h =
    rw (
      at_first n d ds k,
      position_same n (coordinate_on n (d ∷ ds) k) (coordinate_on n ds (k / n d)) ds (λ e m. at_later n d ds k e (apart e d ds o.0 m)),
      position_coordinate n ds (k / n d) o.1 (quotient (n d) (span n ds) k h),
    )
    (div-add-mod k (n d))

quotient_of : (n b x : ℕ) → x < n → (n * b + x) / n ≡ b
quotient_of n b x h = mul-add-div {m = n} (omega arith) b x ∙ rw (div-eq_of_lt h) (add-zero b)

-- Round: the coordinates of coordinates' position are the coordinates
pub coordinate_position : (n x : ℕ → ℕ) (ds : List ℕ) → Inside n x ds → Same (coordinate_on n ds (position_on n x ds)) x ds
unfolding position_on
coordinate_position n x [] h e m = none_among e m
coordinate_position n x (d ∷ ds) h e m =
    let l = h d (first_among d ds) in
    first_or_later e d ds m
    (λ q. rw (q, at_first n d ds (n d * position_on n x ds + x d)) (mul-add-mod_self_left (n d) (position_on n x ds) (x d) ∙ mod-eq_of_lt l))
    (λ q r.
    at_later n d ds (n d * position_on n x ds + x d) e q
    ∙ rw (quotient_of (n d) (position_on n x ds) (x d) l) (coordinate_position n x ds (λ a t. h a (later_among a d ds t)) e r))
