-- Trees of places by the digits of their numbers in base 4, the lowest first: how the first repeat is found. A number x is looked for
-- from the slot of its bucket on. Where that has a place, x is compared with the number of the place, and where that is another the
-- next digit of x chooses one of the four slots after it. An empty slot says that x was not there, and gets its own place. After 16
-- digits two numbers of 32 bits are equal, so a search passes at most 16 places with other numbers, whatever the buckets are.
use Rattle.std.specs.Prelude.{◌≡◌, refl, Bool, List, ℕ, zero, suc, ◌+◌, ◌-◌, ◌*◌, ◌/◌, ◌%◌, ◌^◌, ◌≤◌, ◌<◌, eqb, ltb, length, get_or, set, replicate}
use Rattle.std.proofs.Common.{sym, ◌∙◌, pow-suc, add-zero, zero-add, add-one, eqb-true, lt-ltb, le-ltb}
use Rattle.std.proofs.Math.Bool.{true, false}
use Rattle.std.proofs.lemmas.Bool.{false≢true, eqb-false}
use native.Mathlib.Omega.{arith}
use borrow.Author.Count.{below_more}
use Rattle.std.proofs.lemmas.List.{length-replicate}
use Rattle.std.proofs.Math.Seq.{get_or-set_same, get_or-set_other}
use Rattle.sizes.specs.Basics.{pick}
use Rattle.grammar.specs.Repeat.{Before}

-- ---- slots

abbrev pub buckets : ℕ
buckets = 4096

-- the bucket of x, and the slot of its first place: the high bits of a product, which spreads numbers that are alike in some bits
unfoldable pub bucket : ℕ → ℕ
bucket x = x * 2654435769 % 4294967296 / 1048576

pub in_bucket : (x : ℕ) → bucket x < buckets
unfolding bucket
in_bucket x = omega arith

-- the slot after place p for the digit e
abbrev pub after : ℕ → ℕ → ℕ
after p e = buckets + 4 * p + e

-- what slot s has: a place and 1, or 0 for none
abbrev pub held : List ℕ → ℕ → ℕ
held slots s = get_or slots s 0

-- the digits of y lead from slot s past n places, that of s the first of them, to slot t
pub data Leads (slots : List ℕ) : ℕ → ℕ → ℕ → ℕ → Type 0 where
  here : {y s : ℕ} → Leads slots 0 y s s
  down : {n y s t : ℕ} → (held slots s ≡ 0 → ⊥) → Leads slots n (y / 4) (after (held slots s - 1) (y % 4)) t → Leads slots (suc n) y s t

-- the way from s to another slot goes by the place of s
first_step : {slots : List ℕ} {n y s t : ℕ} → Leads slots n y s t → (t ≡ s → ⊥)
    → (held slots s ≡ 0 → ⊥) × ((i : ℕ) × Leads slots i (y / 4) (after (held slots s - 1) (y % 4)) t)
first_step here n = absurd (n refl)
first_step (down {n = i} h l) n = (h, (i, l))

-- every place stays
abbrev pub Extends : List ℕ → List ℕ → Type 0
Extends slots slots' = (s : ℕ) → (held slots s ≡ 0 → ⊥) → held slots' s ≡ held slots s

still : {slots : List ℕ} (slots' : List ℕ) {n y s t : ℕ} → Extends slots slots' → Leads slots n y s t → Leads slots' n y s t
still slots' k here = here
still slots' k (down {n} {y} {s} {t} h l) = let e = k s h in down {n = n} {y = y} {s = s} {t = t} (rw e h) (rw e (still slots' k l))

one_more_place : (slots : List ℕ) (s v : ℕ) → held slots s ≡ 0 → Extends slots (set slots s v)
one_more_place slots s v z i h = get_or-set_other slots s i v 0 (λ e. h (rw e z))

-- ---- the trees

-- The first k places, in trees. Each slot s has the digits by which it is reached: their value `from s`, and `unit s`, 4 to the power
-- of how many they are.
pub record PlaceTrees (w : ℕ → ℕ) (k : ℕ) (slots : List ℕ) : Type 0 where
  pub from : ℕ → ℕ
  pub unit : ℕ → ℕ
  pub root : (b : ℕ) → b < buckets → (from b ≡ 0) × (unit b ≡ 1)
  -- a place is before k and in a slot of a bucket or after one before k, and its number begins with the digits of the slot
  pub node : (s : ℕ) → (held slots s ≡ 0 → ⊥)
      → (s < buckets + 4 * k) × (held slots s ≤ k) × ((z : ℕ) × (w (held slots s - 1) ≡ from s + unit s * z))
  -- a slot after it has one digit more
  pub edge : (s : ℕ) → (held slots s ≡ 0 → ⊥) → (e : ℕ) → e < 4
      → (from (after (held slots s - 1) e) ≡ from s + unit s * e) × (unit (after (held slots s - 1) e) ≡ unit s * 4)
  -- each number leads to its place
  pub leads : (j : ℕ) → j < k → (t : ℕ) × (held slots t ≡ j + 1) × ((n : ℕ) × Leads slots n (w j) (bucket (w j)) t)

zeros : (n i : ℕ) → ◌≡◌ {A = ℕ} (get_or (replicate n 0) i 0) 0
zeros zero i = refl
zeros (suc n) zero = refl
zeros (suc n) (suc i) = zeros n i

-- Start: no places, and slots for m of them
pub record Empty (w : ℕ → ℕ) (m : ℕ) (slots : List ℕ) : Type 0 where
  pub long : buckets + 4 * m ≤ length slots
  pub trees : PlaceTrees w 0 slots

no_places : (w : ℕ → ℕ) (n : ℕ) → PlaceTrees w 0 (replicate n 0)
no_places w n =
    record {
      from = λ s. 0;
      unit = λ s. 1;
      root = λ b h. (refl, refl);
      node = λ s h. absurd (h (zeros n s));
      edge = λ s h. absurd (h (zeros n s));
      leads = λ j h. absurd (omega arith);
    }

pub all_empty : (w : ℕ → ℕ) {m : ℕ} (n : ℕ) → buckets + 4 * m ≤ n → Empty w m (replicate n 0)
all_empty w n h = record { long = rw (length-replicate {A = ℕ} n 0) h; trees = no_places w n }

-- ---- a search

-- The number x was compared with those of `level` places, and led to the slot `at`, with the digits `rest` still to go.
pub record Search (w : ℕ → ℕ) (k : ℕ) (slots : List ℕ) (x at rest level : ℕ) : Type 0 where
  pub trees : PlaceTrees w k slots
  pub inside : at < buckets + 4 * k
  pub few : level ≤ 16
  pub scale : trees.unit at ≡ 4 ^ level
  pub digits : x ≡ trees.from at + trees.unit at * rest
  -- where the rest leads from here, x leads from its bucket, whatever places are added
  pub back : (slots' : List ℕ) → Extends slots slots' → (n t : ℕ) → Leads slots' n rest at t → Leads slots' (n + level) x (bucket x) t
  -- if x is there, it is here or further down
  pub under : (j : ℕ) → j < k → w j ≡ x → (t : ℕ) × (held slots t ≡ j + 1) × ((n : ℕ) × Leads slots n rest at t)

-- Start: at the bucket
pub at_bucket : (w : ℕ → ℕ) (k : ℕ) (slots : List ℕ) (x : ℕ) → PlaceTrees w k slots → Search w k slots x (bucket x) x 0
at_bucket w k slots x t =
    let r = t.root (bucket x) (in_bucket x) in
    record {
      trees = t;
      inside = omega (arith, in_bucket x);
      few = omega arith;
      scale = r.1;
      digits = rw (r.0, r.1) (omega arith);
      back = λ slots' s n q l. rw (add-zero n) l;
      under = λ j b e. rw e at (t.leads j b);
    }

-- ---- one place further

-- f below n, and g from n on
parted : ℕ → (ℕ → ℕ) → (ℕ → ℕ) → ℕ → ℕ
parted n f g s = pick (ltb s n) (f s) (g s)

module _ {n : ℕ} (f g : ℕ → ℕ) (s : ℕ) where
  first_part : s < n → parted n f g s ≡ f s
  unfolding parted pick
  first_part h = rw (lt-ltb s n h)

  second_part : n ≤ s → parted n f g s ≡ g s
  unfolding parted pick
  second_part h = rw (le-ltb s n h)

by_digit : (a b y q r : ℕ) → y ≡ 4 * q + r → a + b * y ≡ (a + b * r) + (b * 4) * q
by_digit a b y q r e = rw e (omega arith)

one_digit : (x a b y : ℕ) → x ≡ a + b * y → x ≡ (a + b * (y % 4)) + (b * 4) * (y / 4)
one_digit x a b y e = e ∙ by_digit a b y (y / 4) (y % 4) (omega arith)

module _ {w : ℕ → ℕ} {k : ℕ} {slots : List ℕ} {x at rest level : ℕ} (v : Search w k slots x at rest level) where
  -- its place is before k
  pub place_below : (held slots at ≡ 0 → ⊥) → held slots at ≤ k
  place_below d = (v.trees.node at d).1

  -- ---- the slot is empty

  module _ (z : held slots at ≡ 0) where
    by_way : (j : ℕ) → (t : ℕ) × (held slots t ≡ j + 1) × ((n : ℕ) × Leads slots n rest at t) → ⊥
    by_way j u = (first_step u.2.1 (λ e. omega (arith, rw e at u.1))).0 z

    -- Not there: x leads to no place
    pub absent : Before w k x → ⊥
    absent b = by_way b.0 (v.under b.0 b.1 b.2)

    -- and place k comes there
    module _ (room : at < length slots) where
      grown : List ℕ
      grown = set slots at (k + 1)

      keeps : Extends slots grown
      unfolding grown
      keeps = one_more_place slots at (k + 1) z

      it : held grown at ≡ k + 1
      unfolding grown
      it = get_or-set_same slots at (k + 1) 0 room

      -- the slots after place k have new digits, all others those that they had
      from' : ℕ → ℕ
      from' = parted (buckets + 4 * k) v.trees.from (λ s. v.trees.from at + v.trees.unit at * (s - (buckets + 4 * k)))

      unit' : ℕ → ℕ
      unit' = parted (buckets + 4 * k) v.trees.unit (λ s. v.trees.unit at * 4)

      old_from : (s : ℕ) → s < buckets + 4 * k → from' s ≡ v.trees.from s
      unfolding from'
      old_from s h = first_part _ _ s h

      old_unit : (s : ℕ) → s < buckets + 4 * k → unit' s ≡ v.trees.unit s
      unfolding unit'
      old_unit s h = first_part _ _ s h

      new_from : (e : ℕ) → from' (after k e) ≡ v.trees.from at + v.trees.unit at * e
      unfolding from'
      new_from e = let d : after k e - (buckets + 4 * k) ≡ e = omega arith in second_part _ _ (after k e) (omega arith) ∙ rw d

      new_unit : (e : ℕ) → unit' (after k e) ≡ v.trees.unit at * 4
      unfolding unit'
      new_unit e = second_part _ _ (after k e) (omega arith)

      -- slot s has the place p and 1
      Node : ℕ → ℕ → Type 0
      Node s p = (s < buckets + 4 * (k + 1)) × (p < k + 1) × ((y : ℕ) × (w p ≡ from' s + unit' s * y))
          × ((e : ℕ) → e < 4 → (from' (after p e) ≡ from' s + unit' s * e) × (unit' (after p e) ≡ unit' s * 4))

      new_node : w k ≡ x → Node at k
      unfolding Node
      new_node e =
          let i = v.inside in
          let f = old_from at i in
          let u = old_unit at i in
          (omega arith, omega arith, (rest, rw (f, u) (e ∙ v.digits)), λ d h. (rw (f, u) (new_from d), rw u (new_unit d)))

      old_node : (s : ℕ) → (held slots s ≡ 0 → ⊥) → Node s (held slots s - 1)
      unfolding Node
      old_node s h =
          let n = v.trees.node s h in
          let f = old_from s n.0 in
          let u = old_unit s n.0 in (
            omega (arith, n.0),
            omega (arith, n.1),
            (n.2.0, rw (f, u) n.2.1),
            λ d l.
                let a : after (held slots s - 1) d < buckets + 4 * k = omega (arith, n.1, h) in
                let g = v.trees.edge s h d l in
                (rw (f, u, old_from _ a) g.0, rw (u, old_unit _ a) g.1),
          )

      by_slot : w k ≡ x → (s : ℕ) → (held grown s ≡ 0 → ⊥) → (b : Bool) → eqb s at ≡ b → Node s (held grown s - 1)
      unfolding grown
      by_slot e s h true t = let p : (k + 1) - 1 ≡ k = omega arith in rw (eqb-true s at t, it, p) (new_node e)
      by_slot e s h false t =
          let o : held grown s ≡ held slots s = get_or-set_other slots at s (k + 1) 0 (eqb-false s at t) in
          rw o (old_node s (rw o at h))

      nodes : w k ≡ x → (s : ℕ) → (held grown s ≡ 0 → ⊥) → Node s (held grown s - 1)
      nodes e s h = by_slot e s h (eqb s at) refl

      put_there : Leads grown level x (bucket x) at
      put_there = rw (zero-add level) at (v.back grown keeps 0 at here)

      put : w k ≡ x → PlaceTrees w (k + 1) grown
      unfolding Node
      put e =
          record {
            from = from';
            unit = unit';
            root = λ b h. let r = v.trees.root b h in (old_from b (omega arith) ∙ r.0, old_unit b (omega arith) ∙ r.1);
            node = λ s h. let n = nodes e s h in (n.0, omega (arith, n.1), n.2);
            edge = λ s h d l. (nodes e s h).3 d l;
            leads = below_more (λ j. (t : ℕ) × (held grown t ≡ j + 1) × ((n : ℕ) × Leads grown n (w j) (bucket (w j)) t)) k
                (λ j h.
                let l = v.trees.leads j h in
                (l.0, keeps l.0 (λ z. omega (arith, l.1)) ∙ l.1, (l.2.0, still grown keeps l.2.1)))
                (at, it, (level, rw e put_there));
          }

  -- ---- the slot has a place with another number

  module _ (d : held slots at ≡ 0 → ⊥) (n : w (held slots at - 1) ≡ x → ⊥) where
    at_last : x < 4294967296 → w (held slots at - 1) < 4294967296 → level ≡ 16 → ⊥
    at_last h h' e =
        let z = (v.trees.node at d).2 in
        let u : v.trees.unit at ≡ 4294967296 = v.scale ∙ rw e in
        let a : x ≡ v.trees.from at + 4294967296 * rest = rw u at v.digits in
        let b : w (held slots at - 1) ≡ v.trees.from at + 4294967296 * z.0 = rw u at z.1 in
        n (omega arith)

    -- Few: after 16 digits two numbers of 32 bits are equal
    not_last : x < 4294967296 → w (held slots at - 1) < 4294967296 → level < 16
    not_last h h' = let l = at_last h h' in omega (arith, v.few)

    elsewhere : (j t : ℕ) → w j ≡ x → held slots t ≡ j + 1 → t ≡ at → ⊥
    elsewhere j t e o s = let i : held slots at - 1 ≡ j = omega (arith, rw s at o) in n (rw i e)

    -- Down: to the slot for the next digit
    go_down : x < 4294967296 → w (held slots at - 1) < 4294967296
        → Search w k slots x (after (held slots at - 1) (rest % 4)) (rest / 4) (level + 1)
    go_down h h' =
        let t = v.trees in
        let g = t.edge at d (rest % 4) (omega arith) in
        let l = not_last h h' in
        record {
          trees = t;
          inside = omega (arith, place_below d, d);
          few = omega arith;
          scale = g.1 ∙ rw (v.scale, add-one level, pow-suc 4 level);
          digits = rw (g.0, g.1) (one_digit x _ _ rest v.digits);
          back = λ slots' s i q r.
              let o : i + (level + 1) ≡ suc i + level = omega arith in
              rw o (v.back slots' s (suc i) q (down {n = i} {y = rest} {s = at} {t = q} (rw (s _ d) d) (rw (s _ d) r)));
          under = λ j b e.
              let u = v.under j b e in
              (u.0, u.1, (first_step u.2.1 (elsewhere j u.0 e u.1)).1);
        }

-- ---- the answers

-- The number x was looked for among those at the first k places. Its digits lead past so many others to the slot with its place; where
-- there was none, that is now place k. Each place that was passed took two steps, the look for it and the comparison with its number,
-- and the slot two more: the look for its place, and the comparison with its number or its store.
pub record Looked (w : ℕ → ℕ) (k x : ℕ) (slots' : List ℕ) (old : Bool) (steps : ℕ) : Type 0 where
  pub place : ℕ
  pub slot : ℕ
  pub holds : held slots' slot ≡ place + 1
  pub passed : ℕ
  pub leads : Leads slots' passed x (bucket x) slot
  pub exact : steps ≡ 2 * passed + 2
  pub few : passed ≤ 16
  pub found : old ≡ true → (place < k) × (w place ≡ x)
  pub absent : old ≡ false → (place ≡ k) × (Before w k x → ⊥)
  pub grown : old ≡ false → w k ≡ x → PlaceTrees w (k + 1) slots'

module _ {w : ℕ → ℕ} {k : ℕ} {slots : List ℕ} {x at rest level : ℕ} (v : Search w k slots x at rest level) where
  -- New: the slot is empty
  pub is_new : (steps : ℕ) → steps ≡ 2 * level + 2 → at < length slots → held slots at ≡ 0
      → Looked w k x (set slots at (k + 1)) false steps
  unfolding grown
  is_new steps c room z =
      record {
        place = k;
        slot = at;
        holds = it v z room;
        passed = level;
        leads = put_there v z room;
        exact = c;
        few = v.few;
        found = λ o. absurd (false≢true o);
        absent = λ _. (refl, absent v z);
        grown = λ _ e. put v z room e;
      }

  -- the slot has the place p with the number y, as it was read
  module _ {p y : ℕ} (d : held slots at ≡ 0 → ⊥) (q : p ≡ held slots at - 1) (r : y ≡ w p) where
    -- Old: that is the number x
    pub is_old : (steps : ℕ) → steps ≡ 2 * level + 2 → y ≡ x → Looked w k x slots true steps
    is_old steps c e =
        record {
          place = p;
          slot = at;
          holds = omega arith;
          passed = level;
          leads = rw (zero-add level) at (v.back slots (λ s h. refl) 0 at here);
          exact = c;
          few = v.few;
          found = λ _. (omega (arith, place_below v d), sym r ∙ e);
          absent = λ o. absurd (false≢true (sym o));
          grown = λ o. absurd (false≢true (sym o));
        }

    -- Further: that is another
    pub further : (y ≡ x → ⊥) → x < 4294967296 → y < 4294967296 → Search w k slots x (after p (rest % 4)) (rest / 4) (level + 1)
    further n h h' = rw q (go_down v d (λ e. n (r ∙ rw q e)) h (rw (r, q) at h'))
