-- Document 02, T-07: "A node's descendants are then exactly the records directly after it, that many less one."
use Rattle.std.specs.Prelude.{◌≡◌, refl, ◌↔◌, ◌⊎◌, Bool, true, false, ltb}
use Rattle.std.proofs.Common.{inl, inr, ⊎_elim, eq-or-lt_of_le, ltb-true, ltb-false}
use mathlib.Core.List.{List}
use Prim.Native.Nat.{ℕ, ◌+◌, ◌≤◌, ◌<◌}
use native.Mathlib.Omega.{arith}
use Rattle.sizes.specs.Sizes.{no_parent}
use Rattle.grammar.specs.Below.{parent_of, size_of, Below, child, deeper}

-- the records from number a up to e are groups, one after the other, all with the parent par: a node, what is below it, and then the next
pub data Groups (ws : List ℕ) : ℕ → ℕ → ℕ → Type 0 where
  no_groups : {par a : ℕ} → Groups ws par a a
  one_group : {par a m e : ℕ} → parent_of ws a ≡ par → a + size_of ws a ≡ m → Groups ws a (a + 1) m → Groups ws par m e → Groups ws par a e

-- ---- 1. the records of derivations are groups

-- ---- 2. what is below a node

ordered : {ws : List ℕ} {par a e : ℕ} → Groups ws par a e → a ≤ e
ordered no_groups = omega arith
ordered (one_group p s g h) = omega (arith, ordered g, ordered h)

before_or_not : (i m : ℕ) → (i < m) ⊎ (m ≤ i)
before_or_not i m = go (ltb i m) refl
  where
    go : (b : Bool) → ltb i m ≡ b → (i < m) ⊎ (m ≤ i)
    go true e = inl (ltb-true i m e)
    go false e = inr (ltb-false i m e)

-- node i's own group ends by e, and what is below it is groups with the parent i
pub record Group (ws : List ℕ) (e i : ℕ) : Type 0 where
  pub itself : 0 < size_of ws i
  pub ends : i + size_of ws i ≤ e
  pub inner : Groups ws i (i + 1) (i + size_of ws i)

pub group_of : {ws : List ℕ} {par a e : ℕ} → Groups ws par a e → (i : ℕ) → a ≤ i → i < e → Group ws e i
group_of no_groups i l u = absurd (omega arith)
group_of {ws} {e = e} (one_group {a = a} {m = m} p s g h) i l u =
    let own : Group ws e a = record { itself = omega (arith, s, ordered g); ends = omega (arith, s, ordered h); inner = rw s g } in
    ⊎_elim
    (λ before.
    ⊎_elim (λ z. rw z at own)
    (λ after. let b = group_of g i (omega arith) before in record { itself = b.itself; ends = omega (arith, b.ends, ordered h); inner = b.inner }) (eq-or-lt_of_le l))
    (λ later. group_of h i later u) (before_or_not i m)

-- what is below a node that is below i is below i
through : {ws : List ℕ} {count i a j : ℕ} → Below ws count i a → Below ws count a j → Below ws count i j
through b (child l e) = deeper l (rw e b)
through b (deeper l c) = deeper l (through b c)

-- all nodes of groups with the parent par are below par
all_below : {ws : List ℕ} {count par a e : ℕ} → e ≤ count → Groups ws par a e → (j : ℕ) → a ≤ j → j < e → Below ws count par j
all_below c no_groups j l u = absurd (omega arith)
all_below {ws} {count} {par} c (one_group {a = a} {m = m} p s g h) j l u =
    let first : Below ws count par a = child {j = a} (omega (arith, ordered g, ordered h)) p in
    ⊎_elim
    (λ before. ⊎_elim (λ z. rw z at first) (λ after. through first (all_below (omega (arith, ordered h)) g j (omega arith) before)) (eq-or-lt_of_le l))
    (λ later. all_below c h j later u) (before_or_not j m)

-- node j lies in the group of its parent, which has the number a or a later one
abbrev InParent : List ℕ → ℕ → ℕ → Type 0
InParent ws a j = (a ≤ parent_of ws j) × (parent_of ws j < j) × (j < parent_of ws j + size_of ws (parent_of ws j))

in_parent : {ws : List ℕ} {par a e : ℕ} → Groups ws par a e → (j : ℕ) → a ≤ j → j < e → (parent_of ws j ≡ par) ⊎ InParent ws a j
in_parent no_groups j l u = absurd (omega arith)
in_parent {ws} {par} (one_group {a = a} {m = m} p s g h) j l u =
    ⊎_elim
    (λ before.
    ⊎_elim (λ z. inl (rw z at p))
    (λ after. inr (⊎_elim (λ z. rw z (omega arith, after, omega (arith, s))) (λ k. (omega (arith, k.0), k.1, k.2)) (in_parent g j (omega arith) before))) (eq-or-lt_of_le l))
    (λ later. ⊎_elim inl (λ k. inr (omega (arith, k.0, ordered g, s), k.1, k.2)) (in_parent h j later u)) (before_or_not j m)

first_parent : {ws : List ℕ} {par a e : ℕ} → Groups ws par a e → a < e → parent_of ws a ≡ par
first_parent no_groups l = absurd (omega arith)
first_parent (one_group p s g h) l = p

-- after a group with the parent par comes the next one with that parent, or the end
next_parent : {ws : List ℕ} {par a e : ℕ} → Groups ws par a e → (par < a) ⊎ (e ≤ par) → (i : ℕ) → a ≤ i → i + size_of ws i < e → parent_of ws i ≡ par → parent_of ws (i + size_of ws i) ≡ par
next_parent no_groups o i l u q = absurd (omega arith)
next_parent {ws} {par} (one_group {a = a} {m = m} {e = e} p s g h) o i l u q =
    ⊎_elim
    (λ before.
    ⊎_elim (λ z. rw (← z, s) (first_parent h (omega (arith, rw (← z) at u, s))))
    (λ after. absurd (⊎_elim
    (λ z. ⊎_elim (λ k. omega arith) (λ k. omega (arith, ordered h)) o)
    (λ k. ⊎_elim (λ n. omega (arith, k.0)) (λ n. omega (arith, k.1, ordered h)) o)
    (in_parent g i (omega arith) before))) (eq-or-lt_of_le l))
    (λ later. next_parent h (⊎_elim (λ k. inl (omega (arith, ordered g))) inr o) i later u q) (before_or_not i m)

module _ (ws : List ℕ) (count : ℕ) (all : Groups ws no_parent 0 count) (few : count ≤ no_parent) where
  of_parent : {j : ℕ} → j < count → parent_of ws j < count → InParent ws 0 j
  of_parent {j} l h = ⊎_elim (λ z. absurd (omega arith)) (λ k. k) (in_parent all j (omega arith) l)

  inside : {i j : ℕ} → i < count → Below ws count i j → (i < j) × (j < i + size_of ws i)
  inside h (child l e) = let k = of_parent l (rw e h) in (rw e at k.1, rw e at k.2)
  inside {i} h (deeper {j = j} l b) =
      let own = group_of all i (omega arith) h in
      let k = inside h b in
      let q = of_parent l (omega (arith, own.ends)) in
      let n = group_of own.inner (parent_of ws j) (omega arith) k.1 in
      (omega (arith, q.1), omega (arith, q.2, n.ends))

  -- node j is below node i, by the parent words, exactly when it is one of the records directly after it, as many as its size less one
  pub below_exactly : (i j : ℕ) → i < count → Below ws count i j ↔ ((i < j) × (j < i + size_of ws i))
  below_exactly i j h =
      let own = group_of all i (omega arith) h in
      (inside h, λ k. all_below own.ends own.inner j (omega arith) k.1)

  -- the node after node i's group, if the parent's group goes on there, has the same parent; so the children of a node are found one after the other
  pub next_child : (i : ℕ) → i < count → parent_of ws i < count → let p = parent_of ws i in let j = i + size_of ws i in j < p + size_of ws p → parent_of ws j ≡ p
  next_child i h k l =
      let p = parent_of ws i in
      let q = of_parent h k in
      next_parent (group_of all p (omega arith) k).inner (inl (omega arith)) i (omega (arith, q.1)) l refl

  -- and so are the nodes without a parent
  pub next_top : (i : ℕ) → parent_of ws i ≡ no_parent → i + size_of ws i < count → parent_of ws (i + size_of ws i) ≡ no_parent
  next_top i e l = next_parent all (inr few) i (omega arith) l e
