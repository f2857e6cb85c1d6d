use Rattle.std.proofs.Common.{◌≡◌, refl, ap, ◌∙◌, ◌+◌, ◌-◌, ◌≤◌, ◌<◌, ℕ, Bool, true, false, arith, leb, leb-true, leb-false, length, take, length-take-le, take_all, List, Ok, Err}
use Rattle.std.specs.Prelude.{min}
use borrow.Rule.Slice.PartMut.{put_mid}
use Rattle.store.specs.Put.{State, stored, put_words}
use Rattle.store.specs.Laws.Puts.{words_land, words_cut, words_past, words_none}
use Rattle.store.specs.Laws.Stored.{stored_none}
use Rattle.store.proofs.Parts.{put_all}
use Rattle.store.proofs.words.put_some.Goals as goal

-- the words that fit stand in the buffer b, from a position `at`, or from its end where that is nearer
module _ (ws b ys : List ℕ) (at start n : ℕ) (s : start ≡ min at (length b)) (m : n ≡ min (length ws) (length b - start)) (e : ys ≡ take n ws) where
  long : length (take n ws) ≡ n
  long = length-take-le n ws (omega arith)

  mid : put_mid start (start + n - start) b ys ≡ stored b start (take n ws)
  mid = rw long at (put_all b start (take n ws) ys (rw long (omega arith)) e)

  from_at : at ≤ length b → put_mid start (start + n - start) b ys ≡ stored b at (take n ws)
  from_at h = mid ∙ ap (λ (k : ℕ). stored b k (take n ws)) (omega arith)

  -- past the end, none
  none : length b < at → put_mid start (start + n - start) b ys ≡ b
  none h =
      let z : n ≡ 0 = omega arith in
      mid ∙ ap (λ (k : ℕ). stored b start (take k ws)) z ∙ stored_none b start

  short : n < length ws → ◌≡◌ {A = State} (put_mid start (start + n - start) b ys, Err (2, at + n)) (put_words ws (b, Ok at))
  short h = go (leb at (length b)) refl
    where
      go : (t : Bool) → leb at (length b) ≡ t → ◌≡◌ {A = State} (put_mid start (start + n - start) b ys, Err (2, at + n)) (put_words ws (b, Ok at))
      go true t =
          let inside = leb-true at (length b) t in
          rw (from_at inside, words_cut ws b at n h (omega arith) (omega arith))
      go false t =
          let outside = leb-false at (length b) t in
          let z : at + n ≡ at = omega arith in
          rw (none outside, words_past ws b at (omega arith) (omega arith), z)

  all : length ws ≤ n → ◌≡◌ {A = State} (put_mid start (start + n - start) b ys, Ok (at + n)) (put_words ws (b, Ok at))
  all h = go (leb at (length b)) refl
    where
      full : take n ws ≡ ws
      full = take_all n ws h

      count : n ≡ length ws
      count = omega arith

      go : (t : Bool) → leb at (length b) ≡ t → ◌≡◌ {A = State} (put_mid start (start + n - start) b ys, Ok (at + n)) (put_words ws (b, Ok at))
      go true t =
          let inside = leb-true at (length b) t in
          rw (from_at inside, full, count, words_land ws b at (omega arith))
      go false t =
          let outside = leb-false at (length b) t in
          let z : at + n ≡ at = omega arith in
          rw (none outside, words_none ws b at (omega arith), z)

pub returns-then-n-words : goal.returns-then-n-words
returns-then-n-words c =
    let a = c.args in
    record {
      is = short a.words.now a.out.now c.copy_from_slice.new.self c.args.at c.min-start.result c.min-n.result c.min-start.ensures c.min-n.ensures
          c.copy_from_slice.ensures.after c.if-n-words.true;
    }

pub returns : goal.returns
returns c =
    let a = c.args in
    record {
      is = all a.words.now a.out.now c.copy_from_slice.new.self c.args.at c.min-start.result c.min-n.result c.min-start.ensures c.min-n.ensures
          c.copy_from_slice.ensures.after c.if-n-words.false;
    }
