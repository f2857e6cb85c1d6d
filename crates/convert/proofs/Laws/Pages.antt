-- "No code point has two bytes in one page, shown once for all three tables" (document 02, T-08); a byte's code point leads back to it.
use Rattle.std.specs.Prelude.{◌≡◌, refl, Bool, true, false, List, [], ◌∷◌, ◌⊎◌, ℕ, zero, suc, ◌+◌, ◌-◌, ◌*◌, ◌≤◌, ◌<◌, T, eqb, leb, ltb, length, get_or}
use Rattle.std.proofs.Common.{sym, ◌∙◌, subst, inl, inr, ⊎_elim, add-zero, add-suc, suc-add, le_of_suc-le-suc, not-suc-le-zero, arith, ltb-true, ltb-false, leb-true, eqb-true, lt-ltb, le-ltb, ne_eqb}
use Rattle.std.proofs.Math.ListN.{get_or-eq_default}
use Rattle.std.proofs.lemmas.Bool.{eqb-false}
use Rattle.sizes.specs.Basics.{pick}
use Rattle.convert.specs.Table.{entries}
use Rattle.convert.specs.Pages.{page_count, page_entries, ascii, no_code_point, no_byte, page, listed, code_point, position, byte}
use Rattle.convert.specs.Utf8.{surrogates}

pub side : (a b : ℕ) → (a < b) ⊎ (b ≤ a)
side a b = cases (ltb a b) refl
  where
    cases : (t : Bool) → ltb a b ≡ t → (a < b) ⊎ (b ≤ a)
    cases true q = inl (ltb-true a b q)
    cases false q = inr (ltb-false a b q)

-- ---- a test over a list, computed once

unfoldable pub both : Bool → Bool → Bool
both true b = b
both false b = false

pub both_left : (a b : Bool) → T (both a b) → T a
unfolding both
both_left true b t = tt
both_left false b t = t

pub both_right : (a b : Bool) → T (both a b) → T b
unfolding both
both_right true b t = t
both_right false b t = absurd t

pub is_true : (b : Bool) → T b → b ≡ true
is_true true t = refl
is_true false t = absurd t

-- the test f passes at each number of the list and its place, counted from i
unfoldable pub every : (ℕ → ℕ → Bool) → ℕ → List ℕ → Bool
every f i [] = true
every f i (x ∷ xs) = both (f i x) (every f (suc i) xs)

pub at_each : (f : ℕ → ℕ → Bool) (xs : List ℕ) (i : ℕ) → T (every f i xs) → (k : ℕ) → k < length xs → T (f (i + k) (get_or xs k 0))
unfolding every
at_each f [] i t k h = absurd (not-suc-le-zero h)
at_each f (x ∷ xs) i t zero h = subst (λ (m : ℕ). T (f m x)) (sym (add-zero i)) (both_left (f i x) (every f (suc i) xs) t)
at_each f (x ∷ xs) i t (suc k) h =
    subst (λ (m : ℕ). T (f m (get_or xs k 0))) (suc-add i k ∙ sym (add-suc i k))
    (at_each f xs (suc i) (both_right (f i x) (every f (suc i) xs) t) k (le_of_suc-le-suc h))

-- ---- the rule of the three tables

either : Bool → Bool → Bool
either true b = true
either false b = b

-- an entry is none, or a code point from 128 on, before the surrogates, that stands first at this byte
right : ℕ → ℕ → ℕ → Bool
right k b e = either (eqb e 0) (both (leb ascii e) (both (ltb e surrogates) (eqb (position e ascii (page k)) b)))

tested : ℕ → Bool
tested k = every (right k) ascii (page k)

all_right : (T (tested 0)) × (T (tested 1)) × (T (tested 2))
unfolding tested every right both either position page entries pick
all_right = (tt, tt, tt)

right_at : (k : ℕ) → k < page_count → T (tested k)
right_at zero h = all_right.0
right_at (suc zero) h = all_right.1
right_at (suc (suc zero)) h = all_right.2
right_at (suc (suc (suc k))) h = absurd (omega arith)

pub length_page : (k : ℕ) → k < page_count → length (page k) ≡ page_entries
unfolding page entries
length_page zero h = refl
length_page (suc zero) h = refl
length_page (suc (suc zero)) h = refl
length_page (suc (suc (suc k))) h = absurd (omega arith)

-- the entry e of byte b is a character's, and stands nowhere before
pub record Listed (k b e : ℕ) : Type 0 where
  pub above : ascii ≤ e
  pub below : e < surrogates
  pub first : position e ascii (page k) ≡ b

listed_of : (k b e : ℕ) → T (right k b e) → 0 < e → Listed k b e
unfolding right either
listed_of k b e t h = parts (eqb e 0) refl t
  where
    parts : (z : Bool) → eqb e 0 ≡ z → T (either z (both (leb ascii e) (both (ltb e surrogates) (eqb (position e ascii (page k)) b)))) → Listed k b e
    parts true q t = absurd (omega (arith, eqb-true e 0 q))
    parts false q t =
        let r = both_right (leb ascii e) (both (ltb e surrogates) (eqb (position e ascii (page k)) b)) t in
        record {
          above = leb-true ascii e (is_true (leb ascii e) (both_left (leb ascii e) (both (ltb e surrogates) (eqb (position e ascii (page k)) b)) t));
          below = ltb-true e surrogates (is_true (ltb e surrogates) (both_left (ltb e surrogates) (eqb (position e ascii (page k)) b) r));
          first = eqb-true (position e ascii (page k)) b (is_true _ (both_right (ltb e surrogates) (eqb (position e ascii (page k)) b) r));
        }

pub rule : (k : ℕ) → k < page_count → (j : ℕ) → j < page_entries → 0 < get_or (page k) j 0 → Listed k (ascii + j) (get_or (page k) j 0)
unfolding tested
rule k hk j hj h = listed_of k (ascii + j) (get_or (page k) j 0) (at_each (right k) (page k) ascii (right_at k hk) j (rw (length_page k hk) hj)) h

-- ---- a page's two functions

pub position_found : (c i : ℕ) (xs : List ℕ) → position c i xs < no_byte → (i ≤ position c i xs) × (get_or xs (position c i xs - i) 0 ≡ c)
unfolding position pick
position_found c i [] h = absurd (omega arith)
position_found c i (x ∷ xs) h = cases (eqb x c) refl h (position_found c (suc i) xs)
  where
    cases : (t : Bool) → eqb x c ≡ t → pick t i (position c (suc i) xs) < no_byte → (position c (suc i) xs < no_byte → (suc i ≤ position c (suc i) xs) × (get_or xs (position c (suc i) xs - suc i) 0 ≡ c))
        → (i ≤ pick t i (position c (suc i) xs)) × (get_or (x ∷ xs) (pick t i (position c (suc i) xs) - i) 0 ≡ c)
    cases true q h ih = let z : i - i ≡ 0 = omega arith in (omega arith, rw z (eqb-true x c q))
    cases false q h ih =
        let n = position c (suc i) xs in
        let p = ih h in
        let z : n - i ≡ suc (n - suc i) = omega (arith, p.0) in
        (omega (arith, p.0), rw z p.1)

-- a place or none
pub position_most : (c i : ℕ) (xs : List ℕ) → i + length xs ≤ no_byte → position c i xs ≤ no_byte
unfolding position pick
position_most c i [] h = omega arith
position_most c i (x ∷ xs) h = cases (eqb x c) (position_most c (suc i) xs (omega arith))
  where
    cases : (t : Bool) → position c (suc i) xs ≤ no_byte → pick t i (position c (suc i) xs) ≤ no_byte
    cases true p = omega arith
    cases false p = p

listed_at : (e : ℕ) → 0 < e → listed e ≡ e
unfolding listed pick
listed_at e h = rw (ne_eqb e 0 (λ q. omega arith))

listed_back : (e c : ℕ) → listed e ≡ c → c < no_code_point → (0 < e) × (e ≡ c)
unfolding listed pick
listed_back e c q h = cases (eqb e 0) refl q
  where
    cases : (t : Bool) → eqb e 0 ≡ t → pick t no_code_point e ≡ c → (0 < e) × (e ≡ c)
    cases true z q = absurd (omega arith)
    cases false z q = (cases0 e z, q)
      where
        cases0 : (e : ℕ) → eqb e 0 ≡ false → 0 < e
        cases0 e z = omega (arith, eqb-false e 0 z)

pub point_low : (k b : ℕ) → b < ascii → code_point k b ≡ b
unfolding code_point pick
point_low k b h = rw (lt-ltb b ascii h)

pub point_high : (k b : ℕ) → ascii ≤ b → code_point k b ≡ listed (get_or (page k) (b - ascii) 0)
unfolding code_point pick
point_high k b h = rw (le-ltb b ascii h)

pub byte_low : (k c : ℕ) → c < ascii → byte k c ≡ c
unfolding byte pick
byte_low k c h = rw (lt-ltb c ascii h)

pub byte_high : (k c : ℕ) → ascii ≤ c → byte k c ≡ position c ascii (page k)
unfolding byte pick
byte_high k c h = rw (le-ltb c ascii h)

-- what a byte's code point is
pub record Mapped (k b c : ℕ) : Type 0 where
  pub back : byte k c ≡ b
  pub below : c < surrogates
  pub octet : b < no_byte

pub point_byte : (k b c : ℕ) → k < page_count → code_point k b ≡ c → c < no_code_point → Mapped k b c
point_byte k b c hk q hc = ⊎_elim low high (side b ascii)
  where
    low : b < ascii → Mapped k b c
    low h =
        let e : c ≡ b = sym q ∙ point_low k b h in
        record { back = byte_low k c (omega arith) ∙ e; below = omega arith; octet = omega arith }

    high : ascii ≤ b → Mapped k b c
    high h =
        let e = listed_back (get_or (page k) (b - ascii) 0) c (sym (point_high k b h) ∙ q) hc in
        ⊎_elim (inside h e) (outside h e) (side (b - ascii) page_entries)
      where
        inside : ascii ≤ b → (0 < get_or (page k) (b - ascii) 0) × (get_or (page k) (b - ascii) 0 ≡ c) → b - ascii < page_entries → Mapped k b c
        inside h e l =
            let r = rw e.1 at (rule k hk (b - ascii) l e.0) in
            let z : ascii + (b - ascii) ≡ b = omega arith in
            record { back = byte_high k c r.above ∙ r.first ∙ z; below = r.below; octet = omega arith }

        outside : ascii ≤ b → (0 < get_or (page k) (b - ascii) 0) × (get_or (page k) (b - ascii) 0 ≡ c) → page_entries ≤ b - ascii → Mapped k b c
        outside h e l =
            let z : get_or (page k) (b - ascii) 0 ≡ 0 = get_or-eq_default (page k) 0 (rw (length_page k hk) l) in
            absurd (omega (arith, e.0, z))

pub byte_point : (k b c : ℕ) → byte k c ≡ b → b < no_byte → code_point k b ≡ c
byte_point k b c q hb = ⊎_elim low high (side c ascii)
  where
    low : c < ascii → code_point k b ≡ c
    low h = let e : b ≡ c = sym q ∙ byte_low k c h in point_low k b (omega arith) ∙ e

    high : ascii ≤ c → code_point k b ≡ c
    high h =
        let e : position c ascii (page k) ≡ b = sym (byte_high k c h) ∙ q in
        let f = rw e at (position_found c ascii (page k) (rw e hb)) in
        point_high k b f.0 ∙ rw f.1 (listed_at c (omega arith))

-- "No code point has two bytes in one page" (document 02, T-08)
pub one_byte : (k a b c : ℕ) → k < page_count → c < no_code_point → code_point k a ≡ c → code_point k b ≡ c → a ≡ b
one_byte k a b c hk hc p q = sym (point_byte k a c hk p hc).back ∙ (point_byte k b c hk q hc).back

-- a code point that has a byte stands before the surrogates
pub byte_below : (k b c : ℕ) → k < page_count → byte k c ≡ b → b < no_byte → c < surrogates
byte_below k b c hk q hb = ⊎_elim (λ (h : c < ascii). omega arith) high (side c ascii)
  where
    high : ascii ≤ c → c < surrogates
    high h =
        let e : position c ascii (page k) ≡ b = sym (byte_high k c h) ∙ q in
        let f = rw e at (position_found c ascii (page k) (rw e hb)) in
        let z : 0 < get_or (page k) (b - ascii) 0 = rw f.1 (omega arith) in
        rw f.1 at (rule k hk (b - ascii) (omega arith) z).below

-- and one that does not has none
pub byte_most : (k c : ℕ) → k < page_count → byte k c ≤ no_byte
byte_most k c hk = ⊎_elim (λ (h : c < ascii). rw (byte_low k c h) (omega arith)) (λ (h : ascii ≤ c). rw (byte_high k c h) (position_most c ascii (page k) (rw (length_page k hk) (omega arith)))) (side c ascii)

pub byte_none : (k c : ℕ) → k < page_count → surrogates ≤ c → byte k c ≡ no_byte
byte_none k c hk h = ⊎_elim (λ (l : byte k c < no_byte). absurd (omega (arith, byte_below k (byte k c) c hk refl l))) (λ (l : no_byte ≤ byte k c). omega (arith, byte_most k c hk)) (side (byte k c) no_byte)
