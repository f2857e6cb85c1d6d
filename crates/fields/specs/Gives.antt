-- What the contract of a reader that also gives the fields says. `ShowsTo` and its like have refusals by number, as definitions and lemmas
-- do; `Shows` and its like say the same of what code has.
use Rattle.std.specs.Prelude.{◌≡◌, List, ℕ, Result, Ok, Err, length, drop}
use Rattle.refusals.specs.declared.Refusal.{Refusal}
use Rattle.refusals.specs.Numbers.{number, by_number}
use Rattle.layout.specs.Step.{Step}
use Rattle.grammar.specs.Layout.{Layout, Tree, Bytes}
use Rattle.grammar.specs.Laws.Layout.Read.{got, read}
use Rattle.layout.specs.Reads.{ReadsTo, bytes}
use Rattle.layout.specs.Step.{Span}
use Rattle.store.specs.declared.Name.{Name}
use Rattle.store.specs.Fields.{Fields, placed}

-- a tree of g was read in s from the place `at` to the place p, and x is what f says of it
pub record Found {A : Type 0} (g : Layout) (f : Tree g → ℕ → A) (s : List ℕ) (at p : ℕ) (x : A) : Type 0 where
  pub tree : Tree g
  pub reads : read g (drop at s) at ≡ got tree (drop p s) p
  pub is : f tree at ≡ x

-- r is what reading g in s gives after st; where that is no refusal, x is what f says of the tree that was read, and of its place
pub record ShowsTo {A : Type 0} (g : Layout) (f : Tree g → ℕ → A) (s : List ℕ) (st r : Step) (x : A) : Type 0 where
  pub reads : ReadsTo g s st r
  pub found : Bytes s → (at p : ℕ) → st ≡ Ok at → r ≡ Ok p → Found g f s at p x

-- the same, where x is the fields of the tree: a record of its own, in which the layout is found without looking at the fields
pub record GivesTo (g : Layout) (s : List ℕ) (st r : Step) (x : Fields g) : Type 0 where
  pub reads : ReadsTo g s st r
  pub found : Bytes s → (at p : ℕ) → st ≡ Ok at → r ≡ Ok p → Found g (placed g) s at p x

-- the same of a single value v; after a refusal it is zero ("everything else returned is 0": document 01, "Refusal numbers")
pub record GivesValueTo {A : Type 0} (g : Layout) (s : List ℕ) (st r : Step) (f : Fields g) (v zero : A) : Type 0 where
  pub gives : GivesTo g s st r f
  pub none : (n p : ℕ) → r ≡ Err (n, p) → v ≡ zero

-- the name that a counted part is
abbrev pub name_at : List ℕ → Span → Name
name_at s (Ok (b, e)) = record { place = b; length = length (bytes s (Ok (b, e))) }
name_at s (Err (r, p)) = record { place = 0; length = 0 }

-- ---- the same of what code has

abbrev pub Shows : {A : Type 0} (g : Layout) → (Tree g → ℕ → A) → List ℕ → Result ℕ Refusal → Result ℕ Refusal → A → Type 0
Shows g f s st r x = ShowsTo g f s (by_number st) (by_number r) x

abbrev pub Gives : (g : Layout) → List ℕ → Result ℕ Refusal → Result ℕ Refusal → Fields g → Type 0
Gives g s st r x = GivesTo g s (by_number st) (by_number r) x

-- a value and the next position, or a refusal. What f says of the tree that was read is what k says of the value
abbrev pub ShowsValue : {A B : Type 0} (g : Layout) → (Tree g → ℕ → B) → (A → B) → List ℕ → Result ℕ Refusal → Result (A × ℕ) Refusal → Type 0
ShowsValue g f k s st (Ok (x, p)) = ShowsTo g f s (by_number st) (Ok p) (k x)
ShowsValue g f k s st (Err e) = ReadsTo g s (by_number st) (Err (number e.reason, e.place))

-- the fields are what k says of the value
abbrev pub GivesValue : {A : Type 0} (g : Layout) → (A → Fields g) → List ℕ → Result ℕ Refusal → Result (A × ℕ) Refusal → Type 0
GivesValue g k s st (Ok (x, p)) = GivesTo g s (by_number st) (Ok p) (k x)
GivesValue g k s st (Err e) = ReadsTo g s (by_number st) (Err (number e.reason, e.place))
