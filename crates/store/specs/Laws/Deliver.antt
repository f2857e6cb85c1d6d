-- What is handed over: case by case; and of what was written by a layout into a buffer that is long enough.
use Rattle.std.proofs.Math.Path.{◌≡◌, refl, sym, ap}
use Rattle.std.proofs.Common.{◌∙◌, arith, take_at, take_all, length-take-le, leb-true, leb-false}
use Rattle.std.specs.Prelude.{Bool, true, false, List, ◌++◌, ℕ, ◌+◌, ◌≤◌, min, drop, leb}
use Rattle.std.proofs.Math.ListN.{length, take}
use Rattle.std.proofs.Math.Seq.{take-length}
use Rattle.layout.specs.Step.{Step}
use Rattle.std.specs.Prelude.{Ok, Err}
use Rattle.sizes.specs.Basics.{pick}
use Rattle.grammar.specs.Layout.{Layout}
use Rattle.layout.specs.Reads.{chain}
use Rattle.store.specs.Fields.{Fields, bytes_in}
use Rattle.store.specs.Put.{stored}
use Rattle.store.specs.Check.{place_of, check}
use Rattle.store.specs.Puts.{PutsTo}
use Rattle.store.specs.Written.{Written}
use Rattle.store.specs.Deliver.{ending, output, answer, DeliversTo}
use Rattle.store.specs.Laws.Exactly.{writable_exactly}
use Rattle.store.specs.Laws.Lands.{Lands, put_lands}
use Rattle.store.specs.Laws.Puts.{long}

-- what an answer says is said by no other
pub is_refused : (r : Written) (n p : ℕ) → answer r ≡ Err (n, p) → r ≡ Err (n, p)
is_refused r n p e = e

pub is_length : (r : Written) (n : ℕ) → answer r ≡ Ok n → r ≡ Ok n
is_length r n e = e

-- a part up to a position, as far as there are elements
take_min : (n : ℕ) (b : List ℕ) → take (min n (length b)) b ≡ take n b
take_min n b = go (leb n (length b)) refl
  where
    go : (t : Bool) → leb n (length b) ≡ t → take (min n (length b)) b ≡ take n b
    go true e = ap (λ (k : ℕ). take k b) (let h = leb-true n (length b) e in let i : min n (length b) ≡ n = omega arith in i)
    go false e =
        let h = leb-false n (length b) e in
        let i : min n (length b) ≡ length b = omega arith in
        ap (λ (k : ℕ). take k b) i ∙ take-length b ∙ sym (take_all n b (omega arith))

-- the part that is copied
pub part_long : {n : ℕ} (b : List ℕ) → n ≤ length b → n ≡ length (take n b)
part_long {n} b h = sym (length-take-le n b h)

module _ (b out : List ℕ) {st : Step} where
  pub delivers_nothing : {n p : ℕ} → st ≡ Err (n, p) → DeliversTo b st out (Err (n, p)) out
  unfolding chain
  delivers_nothing {n} {p} e = record {
    answers = rw e;
    holds = λ m i. absurd (let z : ◌≡◌ {A = ℕ} 0 1 = cc in omega arith);
    keeps = λ m q i. refl;
  }

  module _ {at : ℕ} (e : st ≡ Ok at) where
    pub delivers_short : {n : ℕ} → n ≡ min at (length b) → leb n (length out) ≡ false → DeliversTo b st out (Err (15, 0)) out
    unfolding chain ending output pick
    delivers_short i f = record {
      answers = rw (e, ← i, f);
      holds = λ m j. refl;
      keeps = λ m q j. refl;
    }

    pub delivers_done : {n : ℕ} {out' : List ℕ} → n ≡ min at (length b) → leb n (length out) ≡ true
        → out' ≡ take (length (take n b)) (take n b) ++ drop (length (take n b)) out → DeliversTo b st out (Ok n) out'
    unfolding chain ending output pick
    delivers_done {n} {out'} i f o =
        let l : length (take n b) ≡ n = sym (part_long b (omega (arith, i))) in
        let same : take n b ≡ take at b = ap (λ (k : ℕ). take k b) i ∙ take_min at b in
        record {
          answers = rw (e, ← i, f);
          holds = λ m j.
              let k : at ≡ m = cc in
              o ∙ rw (take-length, l, same, k);
          keeps = λ m q j. absurd (let z : ◌≡◌ {A = ℕ} 0 1 = cc in omega arith);
        }

-- the fields of a layout, written into a buffer that they fit, and handed over: the length or the first refusal, then 15; and their bytes
module _ (g : Layout) (s : List ℕ) (f : Fields g) {b b' out out' : List ℕ} {r r' : Step} (room : place_of (check g s f 0) ≤ length b)
    (wrote : PutsTo g s f b (Ok 0) b' r) (gives : DeliversTo b' r out r' out') where
  lands : Lands b 0 (bytes_in g s f) (check g s f 0) (b', r)
  lands = rw wrote.is (put_lands g s f b 0 room)

  -- a position after the bytes, and no farther than the buffer reaches
  inside : {n : ℕ} → check g s f 0 ≡ Ok n → min n (length b') ≡ n
  inside e = let h : place_of (check g s f 0) ≤ length b' = rw (long wrote) room in let k = rw e at h in omega (arith, k)

  front : {n : ℕ} → check g s f 0 ≡ Ok n → take n b' ≡ bytes_in g s f
  unfolding stored
  front {n} e =
      let l = ((writable_exactly g s f 0 n).0 e).1 in
      rw (lands.holds n e) (take_at (bytes_in g s f) (drop (0 + length (bytes_in g s f)) b) n (omega (arith, l)))

  pub delivered_answer : r' ≡ chain (check g s f 0) (ending (length out))
  unfolding chain
  delivered_answer = gives.answers ∙ go (check g s f 0) refl lands.answers
    where
      go : (c : Step) → check g s f 0 ≡ c → r ≡ c → chain r (λ n. ending (length out) (min n (length b'))) ≡ chain c (ending (length out))
      go (Ok n) e i = rw (i, inside e)
      go (Err (n, p)) e i = rw i

  pub delivered_output : out' ≡ output (chain (check g s f 0) (ending (length out))) (bytes_in g s f) out
  unfolding chain output
  delivered_output = go (check g s f 0) refl lands.answers
    where
      go : (c : Step) → check g s f 0 ≡ c → r ≡ c → out' ≡ output (chain (check g s f 0) (ending (length out))) (bytes_in g s f) out
      go (Ok n) e i = gives.holds n i ∙ rw (← delivered_answer, front e)
      go (Err (n, p)) e i = gives.keeps n p i ∙ rw e
