-- The laws of numbers that stand once each: a test of each number against those before it finds out whether all stand once each.
use Rattle.std.specs.Prelude.{◌≡◌, refl, ◌↔◌, Bool, true, false, not, List, [], ◌∷◌, ℕ, ◌<◌, eqb, ltb, length}
use Rattle.std.proofs.Math.Option.{Option, none, some}
use Rattle.std.proofs.Common.{arith, lt-ltb, ltb-true}
use Rattle.std.proofs.lemmas.Bool.{not-true}
use Rattle.sizes.specs.Basics.{among, pick}
use Rattle.grammar.specs.Layout.{All, all_none, all_more}
use Rattle.grammar.specs.Laws.Layout.Tests.{or_is_false, and_is_true, eqb_turned}
use Rattle.grammar.specs.Once.{fresh, Distinct, OnceEach, AllFresh, Leaf, indexes, first_bad}
mod Room

-- ---- fresh

-- Fresh: below n, and not among those seen
pub is_fresh : (n : ℕ) (seen : List ℕ) (x : ℕ) → (fresh n seen x ≡ true) ↔ ((x < n) × (among x seen ≡ false))
unfolding fresh
is_fresh n seen x = (
  λ e. let p = and_is_true (ltb x n) (not (among x seen)) e in (ltb-true x n p.0, not-true (among x seen) p.1),
  λ h. rw (lt-ltb x n h.0, h.1),
)

-- Members: of those seen it matters only whether x is among them
pub fresh_among : (n : ℕ) (seen seen' : List ℕ) (x : ℕ) → among x seen ≡ among x seen' → fresh n seen x ≡ fresh n seen' x
unfolding fresh
fresh_among n seen seen' x e = rw e

-- ---- once each

-- none of the xs is among those seen
abbrev pub Away : List ℕ → List ℕ → Type 0
Away seen xs = All (λ x. among x seen ≡ false) xs

apart : (seen : List ℕ) (x : ℕ) (xs : List ℕ) → Away (x ∷ seen) xs → (among x xs ≡ false) × Away seen xs
unfolding among
apart seen x [] r = (refl, all_none)
apart seen x (y ∷ ys) (all_more p r) =
    let q = or_is_false (eqb y x) (among y seen) p in
    let i = apart seen x ys r in
    (rw (eqb_turned y x q.0) i.0, all_more q.1 i.1)

joined : (seen : List ℕ) (x : ℕ) (xs : List ℕ) → among x xs ≡ false → Away seen xs → Away (x ∷ seen) xs
unfolding among
joined seen x [] e r = all_none
joined seen x (y ∷ ys) e (all_more p r) =
    let q = or_is_false (eqb x y) (among x ys) e in
    all_more {x = y} (rw (eqb_turned x y q.0) p) (joined seen x ys q.1 r)

once : (n : ℕ) (seen xs : List ℕ) → AllFresh n seen xs → OnceEach n xs × Away seen xs
once n seen [] h = (record { below = all_none; distinct = tt }, all_none)
once n seen (x ∷ xs) h =
    let f = (is_fresh n seen x).0 h.0 in
    let i = once n (x ∷ seen) xs h.1 in
    let q = apart seen x xs i.1 in
    (record { below = all_more f.0 i.0.below; distinct = (q.0, i.0.distinct) }, all_more f.1 q.1)

turns : (n : ℕ) (seen xs : List ℕ) → All (λ x. x < n) xs → Distinct xs → Away seen xs → AllFresh n seen xs
turns n seen [] b d a = tt
turns n seen (x ∷ xs) (all_more p b) d (all_more q a) = ((is_fresh n seen x).1 (p, q), turns n (x ∷ seen) xs b d.1 (joined seen x xs d.0 a))

-- After some: each is fresh in its turn exactly when they stand once each, and none was seen before
pub fresh_after : (n : ℕ) (seen xs : List ℕ) → AllFresh n seen xs ↔ (OnceEach n xs × Away seen xs)
fresh_after n seen xs = (once n seen xs, λ o. turns n seen xs o.0.below o.0.distinct o.1)

none_seen : (xs : List ℕ) → Away [] xs
unfolding among
none_seen [] = all_none
none_seen (x ∷ xs) = all_more refl (none_seen xs)

-- All fresh: each is fresh in its turn exactly when they stand once each
pub all_fresh : (n : ℕ) (xs : List ℕ) → AllFresh n [] xs ↔ OnceEach n xs
all_fresh n xs = (λ h. (once n [] xs h).0, λ o. (fresh_after n [] xs).1 (o, none_seen xs))

split : {P : ℕ → Type 0} {x : ℕ} {xs : List ℕ} → All P (x ∷ xs) → P x × All P xs
split (all_more p r) = (p, r)

-- One more: a number in front of others that stand once each
pub one_more : (n : ℕ) (seen : List ℕ) (x : ℕ) → ((fresh n seen x ≡ true) × OnceEach n seen) ↔ OnceEach n (x ∷ seen)
one_more n seen x = (
  λ h. let f = (is_fresh n seen x).0 h.0 in record { below = all_more f.0 h.1.below; distinct = (f.1, h.1.distinct) },
  λ o. let s = split o.below in
      ((is_fresh n seen x).1 (s.0, o.distinct.0), record { below = s.1; distinct = o.distinct.1 }),
)

-- None: no number is below 0 (document 01: "n of 3, 0, 5: only an empty cell list")
pub none_below : {xs : List ℕ} → OnceEach 0 xs → xs ≡ []
none_below o = go o.below
  where
    go : {xs : List ℕ} → All (λ x. x < 0) xs → xs ≡ []
    go all_none = refl
    go (all_more h hs) = absurd (omega arith)

by_among : (n : ℕ) (xs : List ℕ) (x : ℕ) → OnceEach n xs → length xs ≡ n → x < n → (b : Bool) → among x xs ≡ b → b ≡ true
by_among n xs x o l h true e = refl
by_among n xs x o l h false e =
    let m = (one_more n xs x).0 ((is_fresh n xs x).1 (h, e), o) in
    absurd (omega (arith, Room.room n (x ∷ xs) m.below m.distinct))

-- Each is there: where n numbers below n stand once each, every number below n is one of them
pub each_there : (n : ℕ) (xs : List ℕ) (x : ℕ) → OnceEach n xs → length xs ≡ n → x < n → among x xs ≡ true
each_there n xs x o l h = by_among n xs x o l h (among x xs) refl

-- ---- leaves

is_fine : (b : Bool) (v : Option ℕ) (p : ℕ) → pick b v (some p) ≡ none → (b ≡ true) × (v ≡ none)
unfolding pick
is_fine true v p e = (refl, e)
is_fine false v p e = absurd (let z : ◌≡◌ {A = ℕ} 0 1 = cc in omega arith)

fine_fresh : (n : ℕ) (seen : List ℕ) (ls : List Leaf) → first_bad n seen ls ≡ none → AllFresh n seen (indexes ls)
unfolding first_bad
fine_fresh n seen [] e = tt
fine_fresh n seen (l ∷ ls) e =
    let q = is_fine (fresh n seen l.0) (first_bad n (l.0 ∷ seen) ls) l.1 e in
    (q.0, fine_fresh n (l.0 ∷ seen) ls q.1)

fresh_fine : (n : ℕ) (seen : List ℕ) (ls : List Leaf) → AllFresh n seen (indexes ls) → first_bad n seen ls ≡ none
unfolding first_bad pick
fresh_fine n seen [] h = refl
fresh_fine n seen (l ∷ ls) h = rw h.0 (fresh_fine n (l.0 ∷ seen) ls h.1)

-- Leaves: none is bad exactly when their indexes stand once each
pub none_bad : (n : ℕ) (ls : List Leaf) → (first_bad n [] ls ≡ none) ↔ OnceEach n (indexes ls)
none_bad n ls = (
  λ e. (all_fresh n (indexes ls)).0 (fine_fresh n [] ls e),
  λ o. fresh_fine n [] ls ((all_fresh n (indexes ls)).1 o),
)
