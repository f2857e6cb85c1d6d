-- A layout with tests that no layout can make: on a number and what stood before it, on a tree when it ends. Where a test stands in a rule
-- is where document 01 makes it. As data: what passes, and which bytes break a rule, by which refusal, and where.
use Rattle.std.specs.Prelude.{◌≡◌, Bool, true, false, List, [], ◌∷◌, ℕ, ◌+◌, ◌-◌, ◌<◌, length}
use Rattle.std.proofs.Math.Option.{Option, none, some}
use Rattle.grammar.specs.Layout.{Order, Test, passes, Layout, empty, number, ◌▸◌, times, Tree, spell_all, spell}
use Rattle.grammar.specs.Fails.{Spells, SpellsAll, Begins, Fails}

-- ---- rules

infixl 20 ◌▸▸◌
pub data Rule : Layout → Type 0 where
  -- no test but those of the layout
  plain : (g : Layout) → Rule g
  -- one after the other: the second may ask what the first was
  ◌▸▸◌ : {a b : Layout} → Rule a → (Tree a → Rule b) → Rule (a ▸ b)
  -- what a number asks for
  numbered : {o : Order} {w : ℕ} {test : Test} {k : ℕ → Layout} → ((n : ℕ) → Rule (k n)) → Rule (number o w test k)
  -- n times: each may ask for those before it, the last of them first
  items : {n : ℕ} {a : Layout} → (List (Tree a) → Rule a) → Rule (times n a)
  -- asked b n back u: u, if b holds before it. Otherwise refusal n, as many bytes back
  asked : {a : Layout} → Bool → ℕ → ℕ → Rule a → Rule a
  -- tested u n v: u, and when it ends no place is wrong in it. Otherwise refusal n, that far from its start
  tested : {a : Layout} → Rule a → ℕ → (Tree a → Option ℕ) → Rule a

-- ---- which trees pass

-- those before what follows ts, the last first
abbrev pub onto : {A : Type 0} → List A → List A → List A
onto done [] = done
onto done (t ∷ ts) = onto (t ∷ done) ts

abbrev pub KeptAll : {A : Type 0} → (List A → A → Type 0) → List A → List A → Type 0
KeptAll P done [] = Unit {0}
KeptAll P done (t ∷ ts) = P done t × KeptAll P (t ∷ done) ts

abbrev pub Kept : {g : Layout} → Rule g → Tree g → Type 0
Kept (plain g) t = Unit {0}
Kept (u ▸▸ k) t = Kept u t.0 × Kept (k t.0) t.1
Kept (numbered k) t = Kept (k t.0) t.1
Kept (items k) ts = KeptAll (λ done t. Kept (k done) t) [] ts
Kept (asked b n back u) t = (b ≡ true) × Kept u t
Kept (tested u n v) t = Kept u t × (v t ≡ none)

-- ---- refusals

-- Breaks u s at n p: where u is to be read from the bytes s, the first of which has the place `at`, refusal n is given at the place p
pub data Breaks : (g : Layout) → Rule g → List ℕ → ℕ → ℕ → ℕ → Type 0 where
  fails : {g : Layout} {s : List ℕ} {at n p : ℕ} → Fails g s at n p → Breaks g (plain g) s at n p
  -- the first, or the second after a first that passes
  first : {a b : Layout} {u : Rule a} {k : Tree a → Rule b} {s : List ℕ} {at n p : ℕ} → Breaks a u s at n p → Breaks (a ▸ b) (u ▸▸ k) s at n p
  second : {a b : Layout} {u : Rule a} {k : Tree a → Rule b} {s : List ℕ} {at : ℕ} {t : Tree a} {r : List ℕ} {n p : ℕ}
      → Spells a s t r → Kept u t → Breaks b (k t) r (at + length (spell a t)) n p → Breaks (a ▸ b) (u ▸▸ k) s at n p
  -- the number, or what it asks for
  in_number : {o : Order} {w : ℕ} {test : Test} {l : ℕ → Layout} {k : (n : ℕ) → Rule (l n)} {s : List ℕ} {at n p : ℕ}
      → Fails (number o w test (λ _. empty)) s at n p → Breaks (number o w test l) (numbered k) s at n p
  after_number : {o : Order} {w : ℕ} {test : Test} {l : ℕ → Layout} {k : (n : ℕ) → Rule (l n)} {s : List ℕ} {at m : ℕ} {r : List ℕ} {n p : ℕ}
      → Begins o w s m r → passes test m ≡ true → Breaks (l m) (k m) r (at + w) n p → Breaks (number o w test l) (numbered k) s at n p
  -- some that pass, and then one
  item : {m : ℕ} {a : Layout} {k : List (Tree a) → Rule a} {s : List ℕ} {at : ℕ} {ts : List (Tree a)} {r : List ℕ} {n p : ℕ}
      → SpellsAll a s ts r → KeptAll (λ done t. Kept (k done) t) [] ts → length ts < m
      → Breaks a (k (onto [] ts)) r (at + length (spell_all (spell a) ts)) n p → Breaks (times m a) (items k) s at n p
  -- a test before; or what follows it
  not_so : {a : Layout} {n back : ℕ} {u : Rule a} {s : List ℕ} {at : ℕ} {b : Bool} → b ≡ false → Breaks a (asked b n back u) s at n (at - back)
  is_so : {a : Layout} {m back : ℕ} {u : Rule a} {s : List ℕ} {at : ℕ} {b : Bool} {n p : ℕ}
      → b ≡ true → Breaks a u s at n p → Breaks a (asked b m back u) s at n p
  -- what is tested when it ends, or a place that is wrong in it then
  before_test : {a : Layout} {u : Rule a} {m : ℕ} {v : Tree a → Option ℕ} {s : List ℕ} {at n p : ℕ} → Breaks a u s at n p → Breaks a (tested u m v) s at n p
  wrong : {a : Layout} {u : Rule a} {m : ℕ} {v : Tree a → Option ℕ} {s : List ℕ} {at : ℕ} {t : Tree a} {r : List ℕ} {q : ℕ}
      → Spells a s t r → Kept u t → v t ≡ some q → Breaks a (tested u m v) s at m (at + q)
