-- What the contracts of writers say: a buffer b, and what was written so far, st, became b' and r. `StoresTo` and its like have refusals by
-- number, as definitions and lemmas do; `Stores` and its like say the same of what code has.
use Rattle.std.specs.Prelude.{◌≡◌, List, ◌++◌, ℕ, Result, length, drop, leb}
use Rattle.refusals.specs.declared.Refusal.{Refusal}
use Rattle.refusals.specs.Numbers.{by_number}
use Rattle.layout.specs.Step.{Step}
use Rattle.sizes.specs.Basics.{pick}
use Rattle.grammar.specs.Layout.{Order, Layout}
use Rattle.store.specs.Fields.{Fields}
use Rattle.store.specs.Put.{State, put_field, closed, put, put_words}
use Rattle.store.specs.Fit.{Fit}

-- a field xs, which gets the refusal c unless that is 0
pub record StoresTo (c : ℕ) (xs b : List ℕ) (st : Step) (b' : List ℕ) (r : Step) : Type 0 where
  pub is : ◌≡◌ {A = State} (b', r) (put_field c xs b st)

-- the fields f of g, whose names lie in s. That they fit is known of the values that the code holds
pub record PutsTo (g : Layout) (s : List ℕ) (f : Fields g) (b : List ℕ) (st : Step) (b' : List ℕ) (r : Step) : Type 0 where
  pub is : ◌≡◌ {A = State} (b', r) (put g s f (b, st))
  pub fit : Fit g s f

-- fields without names: wherever names lie
pub record PutsPlainTo (g : Layout) (f : Fields g) (b : List ℕ) (st : Step) (b' : List ℕ) (r : Step) : Type 0 where
  pub any : (s : List ℕ) → PutsTo g s f b st b' r

-- the count of a region that starts at `first` and whose content ends at `last`
pub record ClosesTo (o : Order) (first : Step) (b : List ℕ) (last : Step) (b' : List ℕ) (r : Step) : Type 0 where
  pub is : ◌≡◌ {A = State} (b', r) (closed o first b last)

-- words one after the other
pub record PutsWordsTo (ws b : List ℕ) (st : Step) (b' : List ℕ) (r : Step) : Type 0 where
  pub is : ◌≡◌ {A = State} (b', r) (put_words ws (b, st))

-- ---- the same of what code has

abbrev pub Stores : ℕ → List ℕ → List ℕ → Result ℕ Refusal → List ℕ → Result ℕ Refusal → Type 0
Stores c xs b st b' r = StoresTo c xs b (by_number st) b' (by_number r)

abbrev pub Puts : (g : Layout) → List ℕ → Fields g → List ℕ → Result ℕ Refusal → List ℕ → Result ℕ Refusal → Type 0
Puts g s f b st b' r = PutsTo g s f b (by_number st) b' (by_number r)

abbrev pub PutsPlain : (g : Layout) → Fields g → List ℕ → Result ℕ Refusal → List ℕ → Result ℕ Refusal → Type 0
PutsPlain g f b st b' r = PutsPlainTo g f b (by_number st) b' (by_number r)

abbrev pub Closes : Order → Result ℕ Refusal → List ℕ → Result ℕ Refusal → List ℕ → Result ℕ Refusal → Type 0
Closes o first b last b' r = ClosesTo o (by_number first) b (by_number last) b' (by_number r)

abbrev pub PutsWords : List ℕ → List ℕ → Result ℕ Refusal → List ℕ → Result ℕ Refusal → Type 0
PutsWords ws b st b' r = PutsWordsTo ws b (by_number st) b' (by_number r)

-- ---- at the front of an area

-- What a function gives that puts n words, xs, at the front of an area b: r is n and the area b' then begins with xs; or, where b is shorter,
-- r is 0 and the area stays as it was.
abbrev pub AtFront : ℕ → List ℕ → List ℕ → ℕ → List ℕ → Type 0
AtFront n xs b r b' =
    let room = leb n (length b) in
    (r ≡ pick room n 0) × (b' ≡ pick room (xs ++ drop n b) b)
