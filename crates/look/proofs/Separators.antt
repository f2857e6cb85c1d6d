-- So many separators, read one after the other into an array.
use Rattle.std.proofs.Common.{◌≡◌, refl, ◌∙◌, ap, ℕ, zero, suc, get_or, ◌+◌, ◌-◌, ◌<◌, ◌≤◌, List, [], ◌∷◌, ◌++◌, map, take, set, length, append-nil, append_assoc, add-one, arith}
use Rattle.std.proofs.lemmas.List.{take_all, take_more_set, length-set, map-append}
use Rattle.std.specs.Prelude.{Ok, Err}
use Rattle.layout.specs.Step.{Step}
use Rattle.grammar.specs.Layout.{times}
use Rattle.layout.specs.Reads.{ReadsTo}
use Rattle.store.specs.Fields.{Fields}
use Rattle.fields.specs.Gives.{GivesTo}
use Rattle.fields.specs.Laws.Gives.{more_gives, none_gives, refused_gives}
use Rattle.fields.specs.Laws.Exits.{stopped}
use Rattle.look.specs.declared.Separator as border
use Rattle.look.specs.Look.{Separator}
use Rattle.look.specs.declared.Separator.TheVariants.{NotDrawn}
use Rattle.look.specs.declared.Frame.{Frame}
use Rattle.look.specs.Values.{separator, lines, frames}

-- what those that are left of n give from here on, all n give with the i that were found
pub record Found (s : List ℕ) (n start at : ℕ) (xs : List border.Separator) (i : ℕ) : Type 0 where
  pub long : length xs ≡ n
  pub gives : (r : Step) (fs : List (Fields Separator)) → GivesTo (times (n - i) Separator) s (Ok at) r fs
      → GivesTo (times n Separator) s (Ok start) r (map separator (take i xs) ++ fs)

module _ {s : List ℕ} {n start : ℕ} where
  pub found_none : (xs : List border.Separator) → length xs ≡ n → Found s n start start xs 0
  found_none xs l = record { long = l; gives = λ r fs h. let e : n - 0 ≡ n = omega arith in rw e at h }

  module _ {at : ℕ} {xs : List border.Separator} {i : ℕ} (f : Found s n start at xs i) (h : i < n) where
    left_one : n - i ≡ n - (i + 1) + 1
    left_one = omega (arith, h)

    pub found_more : {next : ℕ} (x : border.Separator) → GivesTo Separator s (Ok at) (Ok next) (separator x) → Found s n start next (set xs i x) (i + 1)
    found_more {next} x g = record {
      long = length-set xs i x ∙ f.long;
      gives = λ r fs y.
          rw (take_more_set xs i x (omega (arith, f.long, h)), map-append separator (take i xs) (x ∷ []), append_assoc (map separator (take i xs)) (separator x ∷ []) fs)
          (f.gives r (separator x ∷ fs) (rw (left_one, add-one) (more_gives g y)));
    }

    pub found_refused : {e : ℕ × ℕ} → ReadsTo Separator s (Ok at) (Err e) → ReadsTo (times n Separator) s (Ok start) (Err e)
    found_refused {e} g = (f.gives (Err e) [] (refused_gives refl (rw (left_one, add-one) (stopped (n - (i + 1)) g)))).reads

  pub found_all : {at : ℕ} {xs : List border.Separator} {i : ℕ} → Found s n start at xs i → n ≤ i → GivesTo (times n Separator) s (Ok start) (Ok at) (map separator xs)
  found_all {at} {xs} {i} f h =
      let none : n - i ≡ 0 = omega (arith, h) in
      rw (take_all i xs (omega (arith, f.long, h)), append-nil) at (f.gives (Ok at) [] (rw none none_gives))

-- ---- an array by its places

by_place : ℕ → (ℕ → border.Separator) → List (Fields Separator)
by_place zero x = []
by_place (suc n) x = separator (x 0) ∷ by_place n (λ i. x (suc i))

all_placed : (n : ℕ) (xs : List border.Separator) → length xs ≡ n → map separator xs ≡ by_place n (λ i. get_or xs i NotDrawn)
unfolding by_place
all_placed zero [] e = refl
all_placed zero (x ∷ xs) e = absurd (omega arith)
all_placed (suc n) [] e = absurd (omega arith)
all_placed (suc n) (x ∷ xs) e = ap (λ ys. separator x ∷ ys) (all_placed n xs (omega arith))

pub four_placed : (xs : List border.Separator) → length xs ≡ 4 → map separator xs
    ≡ lines (record { horizontal_dimension = get_or xs 0 NotDrawn; vertical_dimension = get_or xs 1 NotDrawn; horizontal_category = get_or xs 2 NotDrawn; vertical_category = get_or xs 3 NotDrawn })
unfolding by_place
four_placed xs e = all_placed 4 xs e

abbrev frame_at : List border.Separator → ℕ → Frame
frame_at xs i = record { left = get_or xs i NotDrawn; right = get_or xs (i + 1) NotDrawn; top = get_or xs (i + 2) NotDrawn; bottom = get_or xs (i + 3) NotDrawn }

pub eleven_placed : (xs : List border.Separator) → length xs ≡ 11 → map separator xs
    ≡ frames (record { title = get_or xs 0 NotDrawn; inner = frame_at xs 1; outer = frame_at xs 5; data_left = get_or xs 9 NotDrawn; data_top = get_or xs 10 NotDrawn })
unfolding by_place
eleven_placed xs e = all_placed 11 xs e
