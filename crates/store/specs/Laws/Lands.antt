-- Where the buffer is long enough, writing by a layout answers what `check` says, and stores the bytes that the fields spell.
use Rattle.std.proofs.Math.Path.{◌≡◌}
use Rattle.std.specs.Prelude.{refl, Bool, true, false, List, [], ◌∷◌, ◌++◌, ℕ, ◌+◌, ◌-◌, ◌≤◌, length, replicate, eqb, leb}
use Rattle.std.proofs.Common.{sym, ap, ◌∙◌, arith, length-append, leb-true, le-leb}
use Rattle.std.proofs.Math.Option.{none, some}
use Rattle.std.proofs.Math.Nat.{add-sub_cancel_left}
use Rattle.std.proofs.lemmas.List.{length-replicate}
use Rattle.layout.specs.Step.{Step}
use Rattle.std.specs.Prelude.{Ok, Err}
use Rattle.sizes.specs.Basics.{pick}
use Rattle.grammar.specs.Layout.{Order, Fill, exact, optional, open_ended, Layout, empty, number, string, ◌▸◌, times, leading, region, nothing, digits, spell_all, spell_fill, spell}
use Rattle.grammar.specs.Numbers.{too_short}
use Rattle.grammar.specs.Laws.Layout as laws
use Rattle.layout.specs.Reads.{chain, verdict}
use Rattle.store.specs.Fields.{FieldsIn, Fields, text_of, resolve_all, resolve_in, resolve, bytes_in, content_in}
use Rattle.store.specs.Put.{State, stored, fitted, put_field, text_verdict, free_verdict, run_verdict, opened, closed, put_all, put_in, put}
use Rattle.store.specs.Check.{place_of, judged, check_all, check_in, check}
use Rattle.store.specs.Laws.Exactly.{writable_exactly, forward}
use Rattle.store.specs.Laws.Stored.{stored_none, stored_length, stored_more, stored_before}

-- ---- a refusal stays, and the buffer with it

all_kept : {A : Type 0} (f : A → State → State) → ((y : A) (b : List ℕ) (n p : ℕ) → f y (b, Err (n, p)) ≡ (b, Err (n, p)))
    → (ys : List A) (b : List ℕ) (n p : ℕ) → put_all f ys (b, Err (n, p)) ≡ (b, Err (n, p))
unfolding put_all
all_kept f h [] b n p = refl
all_kept f h (y ∷ ys) b n p = rw (h y b n p) (all_kept f h ys b n p)

in_kept : {A : Type 0} (m : Fill) (f : A → State → State) → ((y : A) (b : List ℕ) (n p : ℕ) → f y (b, Err (n, p)) ≡ (b, Err (n, p)))
    → (s : List ℕ) (y : FieldsIn m A) (b : List ℕ) (n p : ℕ) → put_in m f s y (b, Err (n, p)) ≡ (b, Err (n, p))
unfolding put_in put_field
in_kept exact f h s y b n p = h y b n p
in_kept optional f h s none b n p = refl
in_kept optional f h s (some y) b n p = h y b n p
in_kept open_ended f h s y b n p = rw (h y.0 b n p)

pub put_kept : (g : Layout) (s : List ℕ) (f : Fields g) (b : List ℕ) (n p : ℕ) → put g s f (b, Err (n, p)) ≡ (b, Err (n, p))
unfolding put put_field opened closed
put_kept empty s f b n p = refl
put_kept (number o w test k) s f b n p = put_kept (k f.0) s f.1 b n p
put_kept (string o w c) s f b n p = refl
put_kept (x ▸ y) s f b n p = rw (put_kept x s f.0 b n p) (put_kept y s f.1 b n p)
put_kept (times m a) s f b n p = all_kept (put a s) (put_kept a s) f b n p
put_kept (leading c m a) s f b n p = put_kept a s f.1 b n p
put_kept (region o m a) s f b n p = rw (in_kept m (put a s) (put_kept a s) s f b n p)
put_kept nothing s f b n p = absurd f

-- ---- the buffer stays as long as it is

pub field_long : (c : ℕ) (xs b : List ℕ) (st : Step) → length (put_field c xs b st).0 ≡ length b
unfolding put_field fitted pick
field_long c xs b (Err (n, p)) = refl
field_long c xs b (Ok at) = go (eqb c 0) (leb (at + length xs) (length b)) refl
  where
    go : (u v : Bool) → leb (at + length xs) (length b) ≡ v
        → length (pick {X = State} u (pick v (stored b at xs, Ok (at + length xs)) (b, Err (too_short, at))) (b, Err (c, at))).0 ≡ length b
    go true true e = stored_length b at xs (leb-true (at + length xs) (length b) e)
    go true false e = refl
    go false v e = refl

opened_long : (b : List ℕ) (st : Step) → length (opened b st).0 ≡ length b
unfolding opened pick
opened_long b (Err (n, p)) = refl
opened_long b (Ok at) = go (leb (at + 4) (length b))
  where
    go : (v : Bool) → length (pick {X = State} v (b, Ok (at + 4)) (b, Err (too_short, at))).0 ≡ length b
    go true = refl
    go false = refl

closed_long : (o : Order) (st : Step) (b : List ℕ) (r : Step) → length (closed o st b r).0 ≡ length b
unfolding closed pick
closed_long o (Err (n, p)) b r = refl
closed_long o (Ok at) b (Err (n, p)) = refl
closed_long o (Ok at) b (Ok q) = go (leb (at + 4) (length b)) refl
  where
    xs : List ℕ
    xs = digits o 4 (q - (at + 4))

    go : (v : Bool) → leb (at + 4) (length b) ≡ v → length (pick {X = State} v (stored b at xs, Ok q) (b, Err (too_short, at))).0 ≡ length b
    go true e = stored_length b at xs (rw (laws.digits_length o 4 (q - (at + 4))) (leb-true (at + 4) (length b) e))
    go false e = refl

all_long : {A : Type 0} (f : A → State → State) → ((y : A) (x : State) → length (f y x).0 ≡ length x.0)
    → (ys : List A) (x : State) → length (put_all f ys x).0 ≡ length x.0
unfolding put_all
all_long f h [] x = refl
all_long f h (y ∷ ys) x = all_long f h ys (f y x) ∙ h y x

in_long : {A : Type 0} (m : Fill) (f : A → State → State) → ((y : A) (x : State) → length (f y x).0 ≡ length x.0)
    → (s : List ℕ) (y : FieldsIn m A) (x : State) → length (put_in m f s y x).0 ≡ length x.0
unfolding put_in
in_long exact f h s y x = h y x
in_long optional f h s none x = refl
in_long optional f h s (some y) x = h y x
in_long open_ended f h s y x =
    field_long (free_verdict s y.1) (text_of s y.1) (f y.0 x).0 (f y.0 x).1 ∙ h y.0 x

pub put_long : (g : Layout) (s : List ℕ) (f : Fields g) (x : State) → length (put g s f x).0 ≡ length x.0
unfolding put
put_long empty s f x = refl
put_long (number o w test k) s f x =
    put_long (k f.0) s f.1 (put_field (verdict test f.0) (digits o w f.0) x.0 x.1)
    ∙ field_long (verdict test f.0) (digits o w f.0) x.0 x.1
put_long (string o w c) s f x = field_long (text_verdict w c s f) (digits o w (length (text_of s f)) ++ text_of s f) x.0 x.1
put_long (y ▸ z) s f x = put_long z s f.1 (put y s f.0 x) ∙ put_long y s f.0 x
put_long (times m a) s f x = all_long (put a s) (put_long a s) f x
put_long (leading c m a) s f x =
    put_long a s f.1 (put_field (run_verdict m f.0) (replicate f.0 c) x.0 x.1)
    ∙ field_long (run_verdict m f.0) (replicate f.0 c) x.0 x.1
put_long (region o m a) s f x =
    let y = opened x.0 x.1 in
    let z = put_in m (put a s) s f y in
    closed_long o x.1 z.0 z.1 ∙ in_long m (put a s) (put_long a s) s f y ∙ opened_long x.0 x.1
put_long nothing s f x = absurd f

-- ---- where the buffer is long enough

-- x answers c, in a buffer that was b and, where c is a position, has xs from `at` on
pub record Lands (b : List ℕ) (at : ℕ) (xs : List ℕ) (c : Step) (x : State) : Type 0 where
  pub answers : x.1 ≡ c
  pub long : length x.0 ≡ length b
  pub holds : (p : ℕ) → c ≡ Ok p → x.0 ≡ stored b at xs

none_lands : (b : List ℕ) (at : ℕ) → Lands b at [] (Ok at) (b, Ok at)
none_lands b at = record { answers = refl; long = refl; holds = λ p e. sym (stored_none b at) }

pub field_lands : (c : ℕ) (xs b : List ℕ) (at n : ℕ) → length xs ≡ n → place_of (judged c n at) ≤ length b
    → Lands b at xs (judged c n at) (put_field c xs b (Ok at))
unfolding put_field fitted judged pick
field_lands c xs b at n l = go (eqb c 0)
  where
    go : (u : Bool) → place_of (pick u (Ok (at + n)) (Err (c, at))) ≤ length b
        → Lands b at xs (pick u (Ok (at + n)) (Err (c, at)))
        (pick u (pick (leb (at + length xs) (length b)) (stored b at xs, Ok (at + length xs)) (b, Err (too_short, at))) (b, Err (c, at)))
    go true h =
        let fits : at + length xs ≤ length b = omega arith in
        rw (le-leb (at + length xs) (length b) fits)
        record { answers = ap Ok (omega arith); long = stored_length b at xs fits; holds = λ p e. refl }
    go false h = record { answers = refl; long = refl; holds = λ p e. absurd (let z : ◌≡◌ {A = ℕ} 0 1 = cc in omega arith) }

-- one after the other. F writes ys from any position on, and answers what c' says
module _ (F : State → State) (c' : ℕ → Step) (ys : List ℕ)
    (kept : (b : List ℕ) (n p : ℕ) → F (b, Err (n, p)) ≡ (b, Err (n, p)))
    (onward : (m : ℕ) → m ≤ place_of (c' m))
    (reach : (m p : ℕ) → c' m ≡ Ok p → p ≡ m + length ys)
    (lands : (b : List ℕ) (m : ℕ) → place_of (c' m) ≤ length b → Lands b m ys (c' m) (F (b, Ok m))) where
  then_at : (b : List ℕ) (at : ℕ) (xs : List ℕ) (m : ℕ) → m ≡ at + length xs → place_of (c' m) ≤ length b → (u : List ℕ) (v : Step)
      → Lands b at xs (Ok m) (u, v) → Lands b at (xs ++ ys) (c' m) (F (u, v))
  then_at b at xs m i h u v x =
      let e : u ≡ stored b at xs = x.holds m refl in
      let long : length u ≡ length b = x.long in
      let y = lands u m (rw long h) in
      rw x.answers record {
        answers = y.answers;
        long = y.long ∙ long;
        holds = λ p j.
            let q : p ≡ m + length ys = reach m p j in
            let far : p ≤ length b = rw j at h in
            y.holds p j ∙ rw (e, i) (stored_more b at xs ys (omega arith));
      }

  pub then_lands : (b : List ℕ) (at : ℕ) (xs : List ℕ) (c : Step) → ((m : ℕ) → c ≡ Ok m → m ≡ at + length xs) → (u : List ℕ) (v : Step)
      → (place_of c ≤ length b → Lands b at xs c (u, v)) → place_of (chain c c') ≤ length b → Lands b at (xs ++ ys) (chain c c') (F (u, v))
  unfolding chain
  then_lands b at xs (Ok m) i u v x h = then_at b at xs m (i m refl) h u v (x (omega (arith, onward m)))
  then_lands b at xs (Err (n, p)) i u v x h =
      let y = x h in
      rw (y.answers, kept u n p)
      record { answers = refl; long = y.long; holds = λ q e. absurd (let z : ◌≡◌ {A = ℕ} 0 1 = cc in omega arith) }

judged_reach : (c n at m : ℕ) → judged c n at ≡ Ok m → m ≡ at + n
unfolding judged pick
judged_reach c n at m = go (eqb c 0)
  where
    go : (u : Bool) → pick {X = Step} u (Ok (at + n)) (Err (c, at)) ≡ Ok m → m ≡ at + n
    go true e = cc
    go false e = absurd (let z : ◌≡◌ {A = ℕ} 0 1 = cc in omega arith)

judged_forward : (c n at : ℕ) → at ≤ place_of (judged c n at)
unfolding judged pick
judged_forward c n at = go (eqb c 0)
  where
    go : (u : Bool) → at ≤ place_of (pick u (Ok (at + n)) (Err (c, at)))
    go true = omega arith
    go false = omega arith

reach_of : (g : Layout) (s : List ℕ) (f : Fields g) (at p : ℕ) → check g s f at ≡ Ok p → p ≡ at + length (bytes_in g s f)
reach_of g s f at p e = ((writable_exactly g s f at p).0 e).1

-- what `put_lands` says of the fields f of g
abbrev Good : (g : Layout) → List ℕ → Fields g → Type 0
Good g s f = (b : List ℕ) (at : ℕ) → place_of (check g s f at) ≤ length b → Lands b at (bytes_in g s f) (check g s f at) (put g s f (b, Ok at))

-- a field, and then the fields f of g
after_field : (g : Layout) (s : List ℕ) (f : Fields g) → Good g s f → (c : ℕ) (xs : List ℕ) (n : ℕ) → length xs ≡ n → (b : List ℕ) (at : ℕ)
    → place_of (chain (judged c n at) (check g s f)) ≤ length b
    → Lands b at (xs ++ bytes_in g s f) (chain (judged c n at) (check g s f)) (put g s f (put_field c xs b (Ok at)))
after_field g s f good c xs n l b at h =
    let x = put_field c xs b (Ok at) in
    then_lands (put g s f) (check g s f) (bytes_in g s f) (put_kept g s f) (forward g s f) (reach_of g s f) good
    b at xs (judged c n at) (λ m e. rw l (judged_reach c n at m e)) x.0 x.1 (field_lands c xs b at n l) h

all_lands : (n : ℕ) (a : Layout) (s : List ℕ) → ((f : Fields a) → Good a s f) → (fs : List (Fields a)) (b : List ℕ) (at : ℕ)
    → place_of (check_all (check a s) fs at) ≤ length b
    → Lands b at (bytes_in (times n a) s fs) (check_all (check a s) fs at) (put_all (put a s) fs (b, Ok at))
unfolding check check_all put_all bytes_in spell spell_all resolve resolve_all
all_lands n a s good [] b at h = none_lands b at
all_lands n a s good (f ∷ fs) b at h =
    let x = put a s f (b, Ok at) in
    then_lands (put_all (put a s) fs) (check_all (check a s) fs) (bytes_in (times n a) s fs)
    (all_kept (put a s) (put_kept a s) fs) (forward (times n a) s fs) (reach_of (times n a) s fs) (all_lands n a s good fs)
    b at (bytes_in a s f) (check a s f at) (reach_of a s f at) x.0 x.1 (good f b at) h

in_lands : (m : Fill) (a : Layout) (s : List ℕ) → ((f : Fields a) → Good a s f) → (f : FieldsIn m (Fields a)) (b : List ℕ) (at : ℕ)
    → place_of (check_in m (check a s) s f at) ≤ length b
    → Lands b at (content_in m a s f) (check_in m (check a s) s f at) (put_in m (put a s) s f (b, Ok at))
unfolding check_in put_in content_in bytes_in spell_fill resolve_in
in_lands exact a s good f b at h = good f b at h
in_lands optional a s good none b at h = none_lands b at
in_lands optional a s good (some f) b at h = good f b at h
in_lands open_ended a s good f b at h =
    let x = put a s f.0 (b, Ok at) in
    let c = free_verdict s f.1 in
    let ys = text_of s f.1 in
    then_lands (λ y. put_field c ys y.0 y.1) (judged c (length ys)) ys
    (λ b n p. free_kept c ys b n p) (judged_forward c (length ys)) (judged_reach c (length ys)) (λ b m k. field_lands c ys b m (length ys) refl k)
    b at (bytes_in a s f.0) (check a s f.0 at) (reach_of a s f.0 at) x.0 x.1 (good f.0 b at) h
  where
    free_kept : (c : ℕ) (ys b : List ℕ) (n p : ℕ) → put_field c ys b (Err (n, p)) ≡ (b, Err (n, p))
    free_kept c ys b n p = refl

-- the count of a region whose content landed
counted : (o : Order) (b : List ℕ) (at : ℕ) (xs : List ℕ) (c : Step) → ((p : ℕ) → c ≡ Ok p → p ≡ at + 4 + length xs) → place_of c ≤ length b → at + 4 ≤ length b
    → (u : List ℕ) (v : Step) → Lands b (at + 4) xs c (u, v) → Lands b at (digits o 4 (length xs) ++ xs) c (closed o (Ok at) u v)
unfolding closed pick
counted o b at xs (Err (n, p)) i h room u v x =
    rw x.answers record { answers = refl; long = x.long; holds = λ q e. absurd (let z : ◌≡◌ {A = ℕ} 0 1 = cc in omega arith) }
counted o b at xs (Ok p) i h room u v x =
    let e : p ≡ at + 4 + length xs = i p refl in
    let long : length u ≡ length b = x.long in
    let same : p - (at + 4) ≡ length xs = rw e (add-sub_cancel_left (at + 4) (length xs)) in
    let four : length (digits o 4 (length xs)) ≡ 4 = laws.digits_length o 4 (length xs) in
    rw (x.answers, le-leb (at + 4) (length u) (rw long room), same) record {
      answers = refl;
      long = stored_length u at (digits o 4 (length xs)) (rw (four, long) room) ∙ long;
      holds = λ q j. rw (x.holds p refl) (stored_before b at (digits o 4 (length xs)) xs 4 four (omega arith));
    }

content_forward : (m : Fill) (a : Layout) (s : List ℕ) (f : FieldsIn m (Fields a)) (at : ℕ) → at ≤ place_of (check_in m (check a s) s f at)
unfolding check_in chain
content_forward exact a s f at = forward a s f at
content_forward optional a s none at = omega arith
content_forward optional a s (some f) at = forward a s f at
content_forward open_ended a s f at = go (check a s f.0 at) (forward a s f.0 at)
  where
    go : (c : Step) → at ≤ place_of c → at ≤ place_of (chain c (judged (free_verdict s f.1) (length (text_of s f.1))))
    go (Ok m) h = omega (arith, judged_forward (free_verdict s f.1) (length (text_of s f.1)) m)
    go (Err (n, p)) h = h

region_lands : (o : Order) (m : Fill) (a : Layout) (s : List ℕ) → ((f : Fields a) → Good a s f) → (f : Fields (region o m a)) → Good (region o m a) s f
unfolding check put bytes_in content_in spell resolve opened pick
region_lands o m a s good f b at h =
    let reach : (p : ℕ) → check_in m (check a s) s f (at + 4) ≡ Ok p → p ≡ at + 4 + length (content_in m a s f) =
    λ p e. let q = reach_of (region o m a) s f at p e in omega (arith, simp (length-append, laws.digits_length) at q) in
    let room : at + 4 ≤ length b = omega (arith, content_forward m a s f (at + 4)) in
    let x = put_in m (put a s) s f (b, Ok (at + 4)) in
    rw (le-leb (at + 4) (length b) room)
    (counted o b at (content_in m a s f) (check_in m (check a s) s f (at + 4)) reach h room x.0 x.1 (in_lands m a s good f b (at + 4) h))

-- Lands: where the buffer is long enough, the answer is the check's and the bytes are the fields'
pub put_lands : (g : Layout) (s : List ℕ) (f : Fields g) → Good g s f
unfolding put check bytes_in spell resolve
put_lands empty s f b at h = none_lands b at
put_lands (number o w test k) s f b at h =
    after_field (k f.0) s f.1 (put_lands (k f.0) s f.1) (verdict test f.0) (digits o w f.0) w (laws.digits_length o w f.0) b at h
put_lands (string o w c) s f b at h =
    let xs = digits o w (length (text_of s f)) ++ text_of s f in
    let l : length xs ≡ w + length (text_of s f) = rw (length-append, laws.digits_length) in
    field_lands (text_verdict w c s f) xs b at (w + length (text_of s f)) l h
put_lands (x ▸ y) s f b at h =
    let u = put x s f.0 (b, Ok at) in
    then_lands (put y s f.1) (check y s f.1) (bytes_in y s f.1) (put_kept y s f.1) (forward y s f.1) (reach_of y s f.1) (put_lands y s f.1)
    b at (bytes_in x s f.0) (check x s f.0 at) (reach_of x s f.0 at) u.0 u.1 (put_lands x s f.0 b at) h
put_lands (times n a) s f b at h = all_lands n a s (put_lands a s) f b at h
put_lands (leading c n a) s f b at h =
    after_field a s f.1 (put_lands a s f.1) (run_verdict n f.0) (replicate f.0 c) f.0 (length-replicate f.0 c) b at h
put_lands (region o m a) s f b at h = region_lands o m a s (put_lands a s) f b at h
put_lands nothing s f b at h = absurd f
