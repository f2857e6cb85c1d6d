-- The laws of a cell's index (003, Cells) and of its coordinates: each is the inverse of the other, so coordinates below their n and indexes
-- below the product correspond one to one.
use Rattle.std.specs.Prelude.{◌≡◌, refl, List, [], ◌∷◌, ℕ, zero, suc, ◌+◌, ◌*◌, ◌/◌, ◌%◌, ◌≤◌, ◌<◌, length, drop, get_or}
use Rattle.std.proofs.Common.{sym, ap, ◌∙◌, zero-mul, mul-zero, mul_comm, mul-one, one-mul, mul_assoc, add-mul, mul-le-mul_left, mul-suc, mod-lt, div-add-mod', div-lt_iff_lt-mul, mod-eq_of_lt, add-zero, zero-add, arith}
use Rattle.std.proofs.Math.Nat.{mul-add-div_right, mul-add-mod_self_right, div-eq_of_lt, mod-mod_of_dvd, dvd-mul_right}
use Rattle.grammar.specs.Layout.{all_none, all_more}
use Rattle.grammar.specs.Index.{product, index_from, index, shape, Inside, coordinates, coordinate}

-- ---- below the product

step_below : (n p k x : ℕ) → k < p → x < n → n * k + x < n * p
step_below n p k x h l =
    let q : n * suc k ≤ n * p = mul-le-mul_left n (omega arith) in
    let r : n * suc k ≡ n * k + n = mul-suc n k in
    omega arith

-- p places for each place of the dimensions
turned : (p n q : ℕ) → p * (n * q) ≡ n * p * q
turned p n q = sym (mul_assoc p n q) ∙ ap (λ (m : ℕ). m * q) (mul_comm p n)

from_below : (k p : ℕ) → k < p → {ds : List (ℕ × ℕ)} → Inside ds → index_from k ds < p * product (shape ds)
unfolding product
from_below k p h all_none = rw (mul-one p) h
from_below k p h (all_more {x = d} {xs = ds} l ls) =
    rw (turned p d.0 (product (shape ds))) (from_below (d.0 * k + d.1) (d.0 * p) (step_below d.0 p k d.1 h l) ls)

pub index_below : {ds : List (ℕ × ℕ)} → Inside ds → index ds < product (shape ds)
index_below {ds} b = rw (one-mul (product (shape ds))) at (from_below 0 1 (omega arith) b)

-- ---- the index from its first coordinate

from_is : (k : ℕ) (ds : List (ℕ × ℕ)) → index_from k ds ≡ k * product (shape ds) + index ds
unfolding product
from_is k [] = omega (arith, mul-one k)
from_is k (d ∷ ds) =
    let p = product (shape ds) in
    let a = from_is (d.0 * k + d.1) ds in
    let b = from_is (d.0 * 0 + d.1) ds in
    let c : (d.0 * k + d.1) * p ≡ d.0 * k * p + d.1 * p = add-mul (d.0 * k) d.1 p in
    let e : (d.0 * 0 + d.1) * p ≡ d.0 * 0 * p + d.1 * p = add-mul (d.0 * 0) d.1 p in
    let z : d.0 * 0 * p ≡ 0 = rw mul-zero (zero-mul p) in
    let f = turned k d.0 p in
    omega (arith, a, b, c, e, z, f)

index_first : (n x : ℕ) (ds : List (ℕ × ℕ)) → index ((n, x) ∷ ds) ≡ x * product (shape ds) + index ds
index_first n x ds = rw (mul-zero n, zero-add x) (from_is x ds)

-- ---- each the other's inverse

positive : (n p k : ℕ) → k < n * p → 0 < p
positive n zero k h = absurd (let e : n * 0 ≡ 0 = mul-zero n in omega arith)
positive n (suc p) k h = omega arith

-- the first coordinate of an index below the product is below its n
first_below : (n p k : ℕ) → k < n * p → k / p < n
first_below n p k h = (div-lt_iff_lt-mul {k = p} {x = k} {y = n} (positive n p k h)).1 h

pub coordinates_shape : (ns : List ℕ) (k : ℕ) → shape (coordinates ns k) ≡ ns
unfolding coordinates
coordinates_shape [] k = refl
coordinates_shape (n ∷ ns) k = ap {B = List ℕ} (λ xs. n ∷ xs) (coordinates_shape ns (k % product ns))

pub coordinates_inside : (ns : List ℕ) (k : ℕ) → k < product ns → Inside (coordinates ns k)
unfolding coordinates product
coordinates_inside [] k h = all_none
coordinates_inside (n ∷ ns) k h =
    all_more {x = (n, k / product ns)} (first_below n (product ns) k h) (coordinates_inside ns (k % product ns) (mod-lt k (positive n (product ns) k h)))

-- the index of an index's coordinates is the index
pub index_of_coordinates : (ns : List ℕ) (k : ℕ) → k < product ns → index (coordinates ns k) ≡ k
unfolding coordinates product
index_of_coordinates [] k h = omega arith
index_of_coordinates (n ∷ ns) k h =
    let p = product ns in
    index_first n (k / p) (coordinates ns (k % p))
    ∙ rw (coordinates_shape ns (k % p), index_of_coordinates ns (k % p) (mod-lt k (positive n p k h))) (div-add-mod' k p)

-- the coordinates of coordinates' index are the coordinates
pub coordinates_of_index : {ds : List (ℕ × ℕ)} → Inside ds → coordinates (shape ds) (index ds) ≡ ds
unfolding coordinates
coordinates_of_index all_none = refl
coordinates_of_index (all_more {x = (n, x)} {xs = ds} l ls) =
    let p = product (shape ds) in
    let small : index ds < p = index_below ls in
    let quotient : (x * p + index ds) / p ≡ x = mul-add-div_right {m = p} (omega arith) x (index ds) ∙ rw (div-eq_of_lt small) (add-zero x) in
    let rest : (x * p + index ds) % p ≡ index ds = mul-add-mod_self_right x p (index ds) ∙ mod-eq_of_lt small in
    rw (index_first n x ds, quotient, rest, coordinates_of_index ls)

-- Different coordinates have different indexes
pub index_one : {ds es : List (ℕ × ℕ)} → Inside ds → Inside es → shape ds ≡ shape es → index ds ≡ index es → ds ≡ es
index_one b b' e i = sym (coordinates_of_index b) ∙ (rw (e, i) (coordinates_of_index b'))

-- Each index below the product is that of coordinates
pub each_index : (ns : List ℕ) (k : ℕ) → k < product ns → (ds : List (ℕ × ℕ)) × (shape ds ≡ ns) × Inside ds × (index ds ≡ k)
each_index ns k h = (coordinates ns k, coordinates_shape ns k, coordinates_inside ns k h, index_of_coordinates ns k h)

-- ---- one coordinate

-- it is that of the list
pub coordinate_of : (ns : List ℕ) (i k : ℕ) → coordinate ns i k ≡ (get_or (coordinates ns k) i (0, 0)).1
unfolding coordinate coordinates
coordinate_of [] i k = refl
coordinate_of (n ∷ ns) zero k = refl
coordinate_of (n ∷ ns) (suc i) k = coordinate_of ns i (k % product ns)

-- it is below the n of its dimension
pub coordinate_below : (ns : List ℕ) (i k : ℕ) → k < product ns → i < length ns → coordinate ns i k < get_or ns i 0
unfolding coordinate product
coordinate_below [] i k h l = absurd (omega arith)
coordinate_below (n ∷ ns) zero k h l = first_below n (product ns) k h
coordinate_below (n ∷ ns) (suc i) k h l = coordinate_below ns i (k % product ns) (mod-lt k (positive n (product ns) k h)) (omega arith)

-- the places of all are a multiple of those of the later dimensions
later_factor : (i : ℕ) (ns : List ℕ) → (c : ℕ) × (product ns ≡ product (drop i ns) * c)
unfolding product
later_factor zero ns = (1, sym (mul-one (product ns)))
later_factor (suc i) [] = (1, refl)
later_factor (suc i) (n ∷ ns) =
    let f = later_factor i ns in
    let q = product (drop i ns) in
    (n * f.0, rw f.1 (turned n q f.0 ∙ mul_assoc q n f.0))

remainder_later : (i : ℕ) (ns : List ℕ) (k : ℕ) → k % product ns % product (drop i ns) ≡ k % product (drop i ns)
remainder_later i ns k =
    let f = later_factor i ns in
    let q = product (drop i ns) in
    rw f.1 (mod-mod_of_dvd q k (dvd-mul_right q f.0))

rest_below : (n : ℕ) (ns : List ℕ) (k : ℕ) → k < product (n ∷ ns) → k % product ns < product ns
unfolding product
rest_below n ns k h = mod-lt k (positive n (product ns) k h)

-- it is found by the places of the dimensions from it on, and of those after it
pub coordinate_is : (ns : List ℕ) (i k : ℕ) → k < product ns → i < length ns → coordinate ns i k ≡ k % product (drop i ns) / product (drop (suc i) ns)
unfolding coordinate
coordinate_is [] i k h l = absurd (omega arith)
coordinate_is (n ∷ ns) zero k h l = rw (mod-eq_of_lt h)
coordinate_is (n ∷ ns) (suc i) k h l =
    coordinate_is ns i (k % product ns) (rest_below n ns k h) (omega arith) ∙ rw (remainder_later i ns k)
