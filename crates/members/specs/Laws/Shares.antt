-- Shares of an area: share by share, in order, each other as it was.
use Rattle.std.specs.Prelude.{◌≡◌, Bool, length, drop}
use Rattle.std.proofs.Math.Path.{refl, ap}
use Rattle.std.proofs.Common.{sym, ◌∙◌, mul-zero, mul-le-mul_left, mul_comm, length-drop, drop-drop, length-take-le}
use Rattle.std.proofs.Math.Bool.{true, false}
use mathlib.Core.List.{List, ◌++◌, append_assoc}
use Prim.Native.Nat.{ℕ, zero, suc, ◌+◌, ◌*◌, ◌-◌, ◌/◌, ◌≤◌, ◌<◌}
use Rattle.std.proofs.Math.Nat.{mul-suc, mul-div-le}
use Rattle.std.proofs.Math.Numerals.{add-one}
use native.Mathlib.Omega.{arith}
use Rattle.std.proofs.Math.ListN.{take, length-append}
use Rattle.std.proofs.Math.Seq.{take_at, drop_at, drop-append-add}
use Rattle.std.proofs.Math.Dec.{eqb}
use borrow.Author.Tests.{eqb-true, eqb-false}
use Rattle.members.specs.Members.{share_of, with_share, joined, cut}

-- ---- shares lie inside

-- shares of whole division: those before share i of n lie inside ..
pub shares_inside : (words n i : ℕ) → i ≤ n → words / n * i ≤ words
shares_inside words n i h =
    let k : words / n * i ≤ words / n * n = mul-le-mul_left (words / n) h in
    let m : words / n * n ≤ words = rw mul_comm (mul-div-le words n) in
    omega arith

-- .. and it too
pub share_inside : (words n i : ℕ) → i < n → words / n * i + words / n ≤ words
share_inside words n i h =
    let e : words / n * (i + 1) ≡ words / n * i + words / n = rw (add-one, mul-suc) in
    omega (arith, shares_inside words n (i + 1) (omega arith))

pub share_length : (w i : ℕ) (area : List ℕ) → w * i + w ≤ length area → length (share_of w i area) ≡ w
unfolding share_of
share_length w i area h = length-take-le w (drop (w * i) area) (omega (arith, length-drop (w * i) area))

-- ---- a share that is lent, and what the area holds when it is back

-- an area's share i of w words, from a to b
module _ (w i : ℕ) (area : List ℕ) {a b : ℕ} (first : a ≡ w * i) (last : b ≡ w * i + w) where
  pub lent : take (b - a) (drop a area) ≡ share_of w i area
  unfolding share_of
  lent = let e : b - a ≡ w = omega arith in rw (e, first)

  pub back : (words : List ℕ) → take a area ++ (words ++ drop (b - a) (drop a area)) ≡ with_share w i area words
  unfolding with_share
  back words = let e : b - a ≡ w = omega arith in rw (e, first, drop-drop)

-- ---- lists of w words each, one after the other

pub joined_length : (w : ℕ) (f : ℕ → List ℕ) (n : ℕ) → ((i : ℕ) → i < n → length (f i) ≡ w) → length (joined f n) ≡ w * n
unfolding joined
joined_length w f zero h = sym (mul-zero w)
joined_length w f (suc n) h = rw (length-append, joined_length w f n (λ i l. h i (omega arith)), h n (omega arith), mul-suc)

-- ---- share after share

-- the shares before i are f 0, f 1 and so on, and from share i on an area is as it was
pub record Filled (w : ℕ) (f : ℕ → List ℕ) (area : List ℕ) (i : ℕ) (area' : List ℕ) : Type 0 where
  pub is : area' ≡ cut w i f area
  pub widths : (k : ℕ) → k < i → length (f k) ≡ w

pub none_filled : (w : ℕ) (f : ℕ → List ℕ) (area : List ℕ) → Filled w f area 0 area
unfolding cut joined
none_filled w f area = record { is = rw (mul-zero w); widths = λ k l. absurd (omega arith) }

module _ {w : ℕ} {f : ℕ → List ℕ} {area : List ℕ} {i : ℕ} {area' : List ℕ} (x : Filled w f area i area') where
  width : length (joined f i) ≡ w * i
  width = joined_length w f i x.widths

  rest : (k : ℕ) → drop (w * i + k) area' ≡ drop (w * i + k) area
  unfolding cut
  rest k = rw (x.is, ← width, drop-append-add, width, drop-drop)

  pub same_length : w * i ≤ length area → length area' ≡ length area
  unfolding cut
  same_length h = rw (x.is, length-append, width, length-drop) (omega arith)

  pub same_share : share_of w i area' ≡ share_of w i area
  unfolding cut share_of
  same_share = rw (x.is, drop_at (joined f i) (drop (w * i) area) (w * i) width)

  more_widths : length (f i) ≡ w → (k : ℕ) → k < i + 1 → length (f k) ≡ w
  more_widths e k l = go (eqb k i) refl
    where
      go : (b : Bool) → eqb k i ≡ b → length (f k) ≡ w
      go true t = rw (eqb-true k i t) e
      go false t = x.widths k (omega (arith, eqb-false k i t))

  pub one_more : {area'' : List ℕ} → length (f i) ≡ w → area'' ≡ with_share w i area' (f i) → Filled w f area (i + 1) area''
  unfolding cut joined with_share
  one_more l e =
      let front : take (w * i) area' ≡ joined f i = ap (take (w * i)) x.is ∙ take_at (joined f i) (drop (w * i) area) (w * i) width in
      record { is = rw (e, front, rest w, add-one i, mul-suc w i) (sym (append_assoc (joined f i) (f i) (drop (w * i + w) area))); widths = more_widths l }

-- ---- all shares

module _ (w : ℕ) (f : ℕ → List ℕ) where
  last : (n : ℕ) (rest : List ℕ) → ((i : ℕ) → i < n → length (f i) ≡ w) → length (f n) ≡ w → share_of w n (joined f n ++ (f n ++ rest)) ≡ f n
  unfolding share_of
  last n rest h l = rw (drop_at (joined f n) (f n ++ rest) (w * n) (joined_length w f n h)) (take_at (f n) rest w l)

  nth_of : (n : ℕ) (rest : List ℕ) → ((i : ℕ) → i < n → length (f i) ≡ w) → (i : ℕ) → i < n → share_of w i (joined f n ++ rest) ≡ f i
  unfolding joined
  nth_of zero rest h i l = absurd (omega arith)
  nth_of (suc n) rest h i l = go (λ m. nth_of n (f n ++ rest) (λ k m. h k (omega arith)) i m) (eqb i n) refl
    where
      go : (i < n → share_of w i (joined f n ++ (f n ++ rest)) ≡ f i) → (b : Bool) → eqb i n ≡ b → share_of w i (joined f n ++ f n ++ rest) ≡ f i
      go before true e = rw (append_assoc, eqb-true i n e) (last n rest (λ k m. h k (omega arith)) (h n (omega arith)))
      go before false e = rw append_assoc (before (omega (arith, eqb-false i n e)))

  module _ (n : ℕ) (area : List ℕ) (h : (i : ℕ) → i < n → length (f i) ≡ w) where
    -- share i of the whole is f i ..
    pub cut_share : (i : ℕ) → i < n → share_of w i (cut w n f area) ≡ f i
    unfolding cut
    cut_share i l = nth_of n (drop (w * n) area) h i l

    -- .. and what is beyond the shares is as it was
    pub cut_rest : drop (w * n) (cut w n f area) ≡ drop (w * n) area
    unfolding cut
    cut_rest = drop_at (joined f n) (drop (w * n) area) (w * n) (joined_length w f n h)
