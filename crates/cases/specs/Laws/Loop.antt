-- A call as a loop of steps: what holds whenever the loop's test is reached, and that each turn keeps it.
use Rattle.std.specs.Prelude.{◌≡◌, Bool, List, [], ◌∷◌, ◌++◌, ltb, take, drop, get_or, set, Option, None, Some}
use Rattle.std.proofs.Math.Path.{refl}
use Rattle.std.proofs.Common.{sym, ap, ◌∙◌, append_assoc, append-nil, length-drop, drop-drop, get_or-drop}
use Rattle.std.proofs.Math.Bool.{true, false}
use Prim.Native.Nat.{ℕ, zero, suc, ◌+◌, ◌-◌, ◌*◌, ◌≤◌, ◌<◌}
use native.Mathlib.Omega.{arith}
use Rattle.std.proofs.Math.ListN.{length, length-append}
use Rattle.std.proofs.Math.Seq.{sets, length-sets}
use borrow.Author.Tests.{ltb-true, ltb-false, lt-ltb, le-ltb}
use Rattle.sizes.specs.Basics.{le, pick}
use Rattle.grammar.specs.Laws.Layout.Digits.{length_le}
use Rattle.case_stream.specs.Stream.{Element}
use Rattle.case_stream.specs.Machine.{State, fits, has, less, halts, moves, step, put, feed}
use Rattle.case_stream.specs.Laws.Steps.{μ}
use Rattle.case_stream.proofs.Laws.Steps.{put_nil, put_put, feed_halts}
use Rattle.case_state.specs.declared.Cursor.{Cursor}
use Rattle.cases.specs.declared.steps.Moved.{Moved}
use Rattle.case_state.specs.Cursor.{view, Good}
use Rattle.cases.specs.Steps.{elements_of, wrote, Strode, Stays, Given, emitted, counted, joined, firsts, Fed_is}

joined_append : (es fs : List Element) → joined (es ++ fs) ≡ joined es ++ joined fs
unfolding joined
joined_append [] fs = refl
joined_append (e ∷ es) fs = ap (λ (x : List ℕ). e ++ x) (joined_append es fs) ∙ sym (append_assoc e (joined es) (joined fs))

sets_append : (vs ws l : List ℕ) (i : ℕ) → sets l i (vs ++ ws) ≡ sets (sets l i vs) (i + length vs) ws
sets_append [] ws l i = let e : i + 0 ≡ i = omega arith in rw e
sets_append (v ∷ vs) ws l i = let e : i + suc (length vs) ≡ suc i + length vs = omega arith in rw e (sets_append vs ws (set l i v) (suc i))

-- what each turn makes smaller
unfoldable pub measure : List ℕ → Cursor → ℕ → Bool → ℕ
measure input c i going = μ (view c) (drop i input) + pick going 1 0

one_at_most : (b : Bool) → pick b 1 0 ≤ 1
unfolding pick
one_at_most true = omega arith
one_at_most false = omega arith

-- ---- 1. the loop

pub record Going (K : List ℕ) (count bias room : ℕ) (c₀ : Cursor) (input o₀ o : List ℕ) (c : Cursor) (i w : ℕ) (going : Bool) : Type 0 where
  pub es : List Element
  pub count_es : w ≡ length es
  pub bytes : length (joined es) ≡ 8 * w
  pub wrote : o ≡ sets o₀ 0 (joined es)
  pub good : Good count c
  pub inside : i ≤ length input
  pub fed : feed K bias (view c₀) input (fits room) ≡ put es (feed K bias (view c) (drop i input) (fits (room - length es)))
  pub roomy : going ≡ true → w < room
  pub done : going ≡ false → step K bias (view c) (drop i input) (fits (room - length es)) ≡ halts

module _ (K : List ℕ) (count bias room : ℕ) (c₀ : Cursor) (input o₀ : List ℕ) where
  step_none : (t : State) (s : List ℕ) (r : ℕ) → r ≡ 0 → step K bias t s (fits r) ≡ halts
  unfolding step has pick
  step_none t s r e = rw e

  step_some : (t : State) (s : List ℕ) (r : ℕ) → 0 < r → step K bias t s (fits r) ≡ moves K bias t s
  unfolding step has pick
  step_some t s zero h = absurd (omega arith)
  step_some t s (suc r) h = refl

  pub begin : Good count c₀ → Going K count bias room c₀ input o₀ o₀ c₀ 0 0 (ltb 0 room)
  unfolding joined
  begin g =
      let z : room - 0 ≡ room = omega arith in
      record {
        es = [];
        count_es = refl;
        bytes = refl;
        wrote = refl;
        good = g;
        inside = omega arith;
        fed = rw (z, put_nil);
        roomy = λ e. ltb-true 0 room e;
        done = λ e. step_none (view c₀) input (room - 0) (omega (arith, ltb-false 0 room e));
      }

  pub finish : (o : List ℕ) (c : Cursor) (i w : ℕ) → Going K count bias room c₀ input o₀ o c i w false → Fed_is K count bias room c₀ input o₀ o c i w
  unfolding put
  finish o c i w g = record {
    es = g.es;
    is = g.fed ∙ rw (feed_halts K bias (view c) (drop i input) (fits (room - length g.es)) (g.done refl), append-nil);
    count_es = g.count_es;
    wrote = g.wrote;
    good = g.good;
    inside = g.inside;
  }

  -- where the machine has no step
  pub stay : (o : List ℕ) (c : Cursor) (i w : ℕ) → Going K count bias room c₀ input o₀ o c i w true → moves K bias (view c) (drop i input) ≡ halts
      → Going K count bias room c₀ input o₀ o c i w false
  stay o c i w g e = record {
    es = g.es;
    count_es = g.count_es;
    bytes = g.bytes;
    wrote = g.wrote;
    good = g.good;
    inside = g.inside;
    fed = g.fed;
    roomy = λ q. g.roomy refl;
    done = λ q. step_some (view c) (drop i input) (room - length g.es) (omega (arith, g.roomy refl, g.count_es)) ∙ e;
  }

  module _ (lK : length K ≡ count) (o : List ℕ) (c : Cursor) (i w : ℕ) (g : Going K count bias room c₀ input o₀ o c i w true)
      (m : Moved) (a : Strode (get_or K c.at 0) count bias c (drop i input) m) where
    abbrev s : List ℕ
    s = drop i input

    abbrev r : ℕ
    r = room - length g.es

    left_is : drop m.takes s ≡ drop (i + m.takes) input
    left_is = drop-drop m.takes i input

    es_count : counted w m.element ≡ length (g.es ++ wrote m)
    unfolding counted elements_of
    es_count = rw length-append (by m.element)
      where
        by : (t : Option ℕ) → counted w t ≡ length g.es + length (elements_of t)
        by (Some x) = omega (arith, g.count_es)
        by None = omega (arith, g.count_es)

    es_bytes : length (joined (g.es ++ wrote m)) ≡ 8 * counted w m.element
    unfolding counted elements_of joined
    es_bytes = rw (joined_append, length-append) (by m.element)
      where
        by : (t : Option ℕ) → length (joined g.es) + length (joined (elements_of t)) ≡ 8 * counted w t
        by (Some x) = rw (append-nil, length_le) (omega (arith, g.bytes))
        by None = omega (arith, g.bytes)

    es_wrote : emitted o w m.element ≡ sets o₀ 0 (joined (g.es ++ wrote m))
    unfolding emitted elements_of joined
    es_wrote = rw (joined_append, sets_append, ← g.wrote, g.bytes) (by m.element)
      where
        by : (t : Option ℕ) → emitted o w t ≡ sets o (0 + 8 * w) (joined (elements_of t))
        by (Some x) = let z : 0 + 8 * w ≡ 8 * w = omega arith in rw (append-nil, z)
        by None = refl

    pub es_inside : i + m.takes ≤ length input
    es_inside = omega (arith, a.inside, g.inside, length-drop i input)

    room_one : r ≡ suc (r - 1)
    room_one = omega (arith, g.roomy refl, g.count_es)

    es_fed : feed K bias (view c₀) input (fits room)
        ≡ put (g.es ++ wrote m) (feed K bias (view m.cursor) (drop (i + m.takes) input) (fits (room - length (g.es ++ wrote m))))
    unfolding less
    es_fed =
        let q : suc (r - 1) - length (wrote m) ≡ room - length (g.es ++ wrote m) = rw length-append (omega (arith, room_one)) in
        let f : feed K bias (view c) s (fits r) ≡ put (wrote m) (feed K bias (view m.cursor) (drop (i + m.takes) input) (fits (room - length (g.es ++ wrote m)))) =
        rw room_one (rw (left_is, q) at (a.leads K lK refl (r - 1))) in
        g.fed ∙ rw (f, put_put)

    pub again : Going K count bias room c₀ input o₀ (emitted o w m.element) m.cursor (i + m.takes) (counted w m.element) (ltb (counted w m.element) room)
    again = record {
      es = g.es ++ wrote m;
      count_es = es_count;
      bytes = es_bytes;
      wrote = es_wrote;
      good = a.good;
      inside = es_inside;
      fed = es_fed;
      roomy = λ q. ltb-true (counted w m.element) room q;
      done = λ q. step_none (view m.cursor) (drop (i + m.takes) input) (room - length (g.es ++ wrote m)) (omega (arith, ltb-false (counted w m.element) room q, es_count));
    }

    pub lesser : μ (view m.cursor) (drop (i + m.takes) input) < μ (view c) s
    lesser = rw left_is at (a.falls K lK refl)

-- ---- 2. a turn of the code's loop

pub same_length : {K : List ℕ} {count bias room : ℕ} {c₀ : Cursor} {input o₀ o : List ℕ} {c : Cursor} {i w : ℕ} {going : Bool}
    → Going K count bias room c₀ input o₀ o c i w going → length o ≡ length o₀
same_length {o₀ = o₀} g = rw g.wrote (length-sets o₀ 0 (joined g.es))

pub length_firsts : (n : ℕ) (l : List ℕ) → length (firsts n l) ≡ n
unfolding firsts
length_firsts zero l = refl
length_firsts (suc n) l = ap suc (length_firsts n (drop 1 l))

pub get_d_firsts : (n : ℕ) (l : List ℕ) (i : ℕ) → i < n → get_or (firsts n l) i 0 ≡ get_or l i 0
unfolding firsts
get_d_firsts zero l i h = absurd (omega arith)
get_d_firsts (suc n) l zero h = refl
get_d_firsts (suc n) l (suc i) h =
    let e : 1 + i ≡ suc i = omega arith in
    get_d_firsts n (drop 1 l) i (omega arith) ∙ (rw e at (get_or-drop 1 l i 0))

-- `firsts` is `take` where there are as many
pub firsts_take : (n : ℕ) (l : List ℕ) → n ≤ length l → firsts n l ≡ take n l
unfolding firsts
firsts_take zero l h = refl
firsts_take (suc n) [] h = absurd (omega arith)
firsts_take (suc n) (x ∷ l) h = ap (λ (r : List ℕ). x ∷ r) (firsts_take n l (omega arith))

module _ (kinds : List ℕ) (count bias room : ℕ) (c₀ : Cursor) (input o₀ : List ℕ) where
  -- with what the code's calls ensure
  pub turns : (o : List ℕ) (c : Cursor) (i w : ℕ) → Going (firsts count kinds) count bias room c₀ input o₀ o c i w true → (m : Moved)
      → Strode (get_or kinds c.at 0) count bias c (drop i input) m → (o' : List ℕ) (w' : ℕ) → o' ≡ emitted o w m.element → w' ≡ counted w m.element
      → Going (firsts count kinds) count bias room c₀ input o₀ o' m.cursor (i + m.takes) w' (ltb w' room) × (μ (view m.cursor) (drop (i + m.takes) input) < μ (view c) (drop i input))
  turns o c i w g m a o' w' e₁ e₂ =
      let e : get_or kinds c.at 0 ≡ get_or (firsts count kinds) c.at 0 = sym (get_d_firsts count kinds c.at g.good.at_in) in
      let a' : Strode (get_or (firsts count kinds) c.at 0) count bias c (drop i input) m = rw e at a in
      let l = length_firsts count kinds in
      rw (e₁, e₂) (again (firsts count kinds) count bias room c₀ input o₀ l o c i w g m a', lesser (firsts count kinds) count bias room c₀ input o₀ l o c i w g m a')

  pub halted : (o : List ℕ) (c : Cursor) (i w : ℕ) → Going (firsts count kinds) count bias room c₀ input o₀ o c i w true → Stays (get_or kinds c.at 0) count bias c (drop i input)
      → Going (firsts count kinds) count bias room c₀ input o₀ o c i w false
  halted o c i w g a =
      let e : get_or (firsts count kinds) c.at 0 ≡ get_or kinds c.at 0 = get_d_firsts count kinds c.at g.good.at_in in
      stay (firsts count kinds) count bias room c₀ input o₀ o c i w g (a.stays (firsts count kinds) (length_firsts count kinds) e)

-- ---- 3. codes that give elements

-- what goes on from o, c and w goes on from o', c' and w', with the same bytes left and no more to do
pub record Gone (K : List ℕ) (count bias room : ℕ) (o : List ℕ) (c : Cursor) (w : ℕ) (o' : List ℕ) (c' : Cursor) (w' : ℕ) : Type 0 where
  pub same_length : length o' ≡ length o
  pub good : Good count c'
  pub goes : (c₀ : Cursor) (input o₀ : List ℕ) (i : ℕ) → Going K count bias room c₀ input o₀ o c i w true
      → Going K count bias room c₀ input o₀ o' c' i w' (ltb w' room) × (μ (view c') (drop i input) ≤ μ (view c) (drop i input))

pub gone : (K : List ℕ) (count bias room : ℕ) (o : List ℕ) (c : Cursor) (w : ℕ) → Good count c → w < room → Gone K count bias room o c w o c w
gone K count bias room o c w g h = record { same_length = refl; good = g; goes = λ c₀ input o₀ i x. (rw (lt-ltb w room h) x, omega arith) }

module _ (kinds : List ℕ) (count bias room : ℕ) (o₁ : List ℕ) (c₁ : Cursor) (w₁ : ℕ) (o : List ℕ) (c : Cursor) (w : ℕ)
    (g : Gone (firsts count kinds) count bias room o₁ c₁ w₁ o c w) (h : w < room) (d : Cursor) (x : ℕ) (a : Given (get_or kinds c.at 0) count bias c d x) where
  pub gives_on : Gone (firsts count kinds) count bias room o₁ c₁ w₁ (sets o (8 * w) (le 8 x)) d (w + 1)
  unfolding emitted counted
  gives_on = record {
    same_length = length-sets o (8 * w) (le 8 x) ∙ g.same_length;
    good = (a [] 0).good;
    goes = λ c₀ input o₀ i y.
        let p = g.goes c₀ input o₀ i y in
        let z : i + 0 ≡ i = omega arith in
        let t = turns kinds count bias room c₀ input o₀ o c i w (rw (lt-ltb w room h) at p.0) _ (a input i) _ _ refl refl in
        let f : μ (view d) (drop i input) < μ (view c) (drop i input) = rw z at t.1 in
        (rw z at t.0, omega (arith, p.1, f));
  }

-- a turn: codes that give elements, then a step where one more fits
module _ (kinds : List ℕ) (count bias room : ℕ) (c₀ : Cursor) (input o₀ o : List ℕ) (c : Cursor) (i w : ℕ)
    (x : Going (firsts count kinds) count bias room c₀ input o₀ o c i w (ltb w room)) (t : w < room) (o₁ : List ℕ) (c₁ : Cursor) (w₁ : ℕ)
    (g : Gone (firsts count kinds) count bias room o c w o₁ c₁ w₁) where
  pub gave : Going (firsts count kinds) count bias room c₀ input o₀ o₁ c₁ i w₁ (ltb w₁ room) × (μ (view c₁) (drop i input) ≤ μ (view c) (drop i input))
  gave = g.goes c₀ input o₀ i (rw (lt-ltb w room t) at x)

  pub turns_after : w₁ < room → (m : Moved) → Strode (get_or kinds c₁.at 0) count bias c₁ (drop i input) m
      → (o' : List ℕ) (w' : ℕ) → o' ≡ emitted o₁ w₁ m.element → w' ≡ counted w₁ m.element
      → Going (firsts count kinds) count bias room c₀ input o₀ o' m.cursor (i + m.takes) w' (ltb w' room) × (measure input m.cursor (i + m.takes) (ltb w' room) < measure input c i (ltb w room))
  unfolding measure pick
  turns_after h m a o' w' e₁ e₂ =
      let r = turns kinds count bias room c₀ input o₀ o₁ c₁ i w₁ (rw (lt-ltb w₁ room h) at gave.0) m a o' w' e₁ e₂ in
      let most : (b : Bool) → pick b 1 0 ≤ 1 = one_at_most in
      (r.0, rw (lt-ltb w room t) (omega (arith, gave.1, r.1, most (ltb w' room))))

  pub halts_after : w₁ < room → Stays (get_or kinds c₁.at 0) count bias c₁ (drop i input) → Going (firsts count kinds) count bias room c₀ input o₀ o₁ c₁ i w₁ false
  halts_after h a = halted kinds count bias room c₀ input o₀ o₁ c₁ i w₁ (rw (lt-ltb w₁ room h) at gave.0) a

  -- no more fits
  pub ends_after : room ≤ w₁ → measure input c₁ i (ltb w₁ room) < measure input c i (ltb w room)
  unfolding measure pick
  ends_after h = rw (le-ltb w₁ room h, lt-ltb w room t) (omega (arith, gave.1))
