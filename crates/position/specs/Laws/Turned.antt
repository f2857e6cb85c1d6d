-- Several axes, which together have each dimension once: positions on them, and turning to other axes and back.
use Rattle.std.specs.Prelude.{◌≡◌, refl, true, false, List, [], ◌∷◌, ◌++◌, ℕ, ◌<◌, length, get_or}
use Rattle.std.proofs.Common.{◌∙◌}
use Rattle.sizes.specs.Basics.{among, pick}
use Rattle.grammar.specs.Once.{Distinct, OnceEach}
use Rattle.grammar.specs.Laws.Once.{each_there}
use Rattle.position.specs.Axes.{position_on, span, coordinate_on, positions, coordinate_at, turned}
use Rattle.position.specs.Laws.Among.{none_among, all_at, on_first, on_later, on_one, parted}
use Rattle.position.specs.Laws.Axis.{Inside, Same, position_below, position_same, coordinate_inside, position_coordinate, coordinate_position}

-- a position for each axis, below the axis's product
pub data Fits (n : ℕ → ℕ) : List (List ℕ) → List ℕ → Type 0 where
  fits_none : Fits n [] []
  fits_more : {a : List ℕ} {axs : List (List ℕ)} {k : ℕ} {ks : List ℕ} → k < span n a → Fits n axs ks → Fits n (a ∷ axs) (k ∷ ks)

-- all dimensions of some axes, axis by axis
unfoldable pub joined : List (List ℕ) → List ℕ
joined [] = []
joined (a ∷ axs) = a ++ joined axs

-- the axes have each of d dimensions once
pub record Axes (d : ℕ) (axs : List (List ℕ)) : Type 0 where
  pub once : OnceEach d (joined axs)
  pub whole : length (joined axs) ≡ d

-- ---- coordinates put down, each at the place of its dimension

-- what is at place e of xs, once those of the position k on an axis are
unfoldable pub placed : (ℕ → ℕ) → List ℕ → ℕ → List ℕ → ℕ → ℕ
placed n axis k xs e = pick (among e axis) (coordinate_on n axis k e) (get_or xs e 0)

pub record Placed (n : ℕ → ℕ) (axis : List ℕ) (k : ℕ) (xs ys : List ℕ) : Type 0 where
  pub long : length ys ≡ length xs
  pub says : (e : ℕ) → get_or ys e 0 ≡ placed n axis k xs e

-- ---- one axis after the other

pub from_first : (n : ℕ → ℕ) (a : List ℕ) (axs : List (List ℕ)) (k : ℕ) (ks : List ℕ) (e : ℕ) → among e a ≡ true → coordinate_at n (a ∷ axs) (k ∷ ks) e ≡ coordinate_on n a k e
unfolding coordinate_at pick
from_first n a axs k ks e h = rw h

pub from_later : (n : ℕ → ℕ) (a : List ℕ) (axs : List (List ℕ)) (k : ℕ) (ks : List ℕ) (e : ℕ) → among e a ≡ false → coordinate_at n (a ∷ axs) (k ∷ ks) e ≡ coordinate_at n axs ks e
unfolding coordinate_at pick
from_later n a axs k ks e h = rw h

-- coordinates below their n have positions that fit
positions_fit : (n x : ℕ → ℕ) (axs : List (List ℕ)) → Inside n x (joined axs) → Fits n axs (positions n x axs)
unfolding joined positions
positions_fit n x [] h = fits_none
positions_fit n x (a ∷ axs) h =
    fits_more (position_below n x a (λ e m. h e (on_first e a (joined axs) m)))
    (positions_fit n x axs (λ e m. h e (on_later e a (joined axs) m)))

-- the coordinates at the positions of coordinates are the coordinates
coordinates_back : (n x : ℕ → ℕ) (axs : List (List ℕ)) → Inside n x (joined axs) → Same (coordinate_at n axs (positions n x axs)) x (joined axs)
unfolding joined positions
coordinates_back n x [] h e m = none_among e m
coordinates_back n x (a ∷ axs) h e m =
    on_one e a (joined axs) m
    (λ q.
    from_first n a axs (position_on n x a) (positions n x axs) e q
    ∙ coordinate_position n x a (λ d t. h d (on_first d a (joined axs) t)) e q)
    (λ q r.
    from_later n a axs (position_on n x a) (positions n x axs) e q
    ∙ coordinates_back n x axs (λ d t. h d (on_later d a (joined axs) t)) e r)

-- the coordinates at positions that fit are below their n
pub at_inside : (n : ℕ → ℕ) (axs : List (List ℕ)) (ks : List ℕ) → Fits n axs ks → Inside n (coordinate_at n axs ks) (joined axs)
unfolding joined
at_inside n [] [] fits_none e m = none_among e m
at_inside n [] (k ∷ ks) f e m = elim f [ ]
at_inside n (a ∷ axs) [] f e m = elim f [ ]
at_inside n (a ∷ axs) (k ∷ ks) (fits_more l f) e m =
    on_one e a (joined axs) m
    (λ q. rw (from_first n a axs k ks e q) (coordinate_inside n a k l e q))
    (λ q r. rw (from_later n a axs k ks e q) (at_inside n axs ks f e r))

-- positions depend on the coordinates of the axes' dimensions alone
pub positions_same : (n x y : ℕ → ℕ) (axs : List (List ℕ)) → Same x y (joined axs) → positions n x axs ≡ positions n y axs
unfolding joined positions
positions_same n x y [] h = refl
positions_same n x y (a ∷ axs) h =
    rw (
      position_same n x y a (λ e m. h e (on_first e a (joined axs) m)),
      positions_same n x y axs (λ e m. h e (on_later e a (joined axs) m)),
    )

-- the positions of the coordinates at positions that fit are the positions
positions_back : (n : ℕ → ℕ) (axs : List (List ℕ)) (ks : List ℕ) → Distinct (joined axs) → Fits n axs ks → positions n (coordinate_at n axs ks) axs ≡ ks
unfolding joined positions
positions_back n [] [] o fits_none = refl
positions_back n [] (k ∷ ks) o f = elim f [ ]
positions_back n (a ∷ axs) [] o f = elim f [ ]
positions_back n (a ∷ axs) (k ∷ ks) o (fits_more l f) =
    let p = parted a (joined axs) o in
    rw (
      position_same n (coordinate_at n (a ∷ axs) (k ∷ ks)) (coordinate_on n a k) a (λ e m. from_first n a axs k ks e m),
      position_coordinate n a k p.first l,
      positions_same n (coordinate_at n (a ∷ axs) (k ∷ ks)) (coordinate_at n axs ks) axs (λ e m. from_later n a axs k ks e (p.away e m)),
      positions_back n axs ks p.later f,
    )

-- ---- turning

module _ {d : ℕ} {axs : List (List ℕ)} (x : Axes d axs) where
  pub on_some : (e : ℕ) → e < d → among e (joined axs) ≡ true
  on_some e h = each_there d (joined axs) e x.once x.whole h

  pub in_table : (e : ℕ) → among e (joined axs) ≡ true → e < d
  in_table e m = all_at e x.once.below m

module _ (n : ℕ → ℕ) {d : ℕ} {axs others : List (List ℕ)} (x : Axes d axs) (y : Axes d others) (ks : List ℕ) (f : Fits n axs ks) where
  inside : Inside n (coordinate_at n axs ks) (joined others)
  inside e m = at_inside n axs ks f e (on_some x e (in_table y e m))

  -- Fits: positions that fit turn into positions that fit
  pub turned_fits : Fits n others (turned n axs others ks)
  unfolding turned
  turned_fits = positions_fit n (coordinate_at n axs ks) others inside

  -- Coordinate: turning keeps the coordinate on every dimension
  pub turned_coordinate : (e : ℕ) → e < d → coordinate_at n others (turned n axs others ks) e ≡ coordinate_at n axs ks e
  unfolding turned
  turned_coordinate e h = coordinates_back n (coordinate_at n axs ks) others inside e (on_some y e h)

  -- Back: turning to other axes and back is the same positions
  pub turned_back : turned n others axs (turned n axs others ks) ≡ ks
  unfolding turned
  turned_back =
      positions_same n (coordinate_at n others (positions n (coordinate_at n axs ks) others)) (coordinate_at n axs ks) axs
      (λ e m. coordinates_back n (coordinate_at n axs ks) others inside e (on_some y e (in_table x e m)))
      ∙ positions_back n axs ks x.once.distinct f
