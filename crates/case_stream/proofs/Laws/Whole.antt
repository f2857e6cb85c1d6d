-- The steps of a call with room; eight bytes at once, of a group and of a block, and what is there of either.
use Rattle.std.specs.Prelude.{◌≡◌, true, take, drop, get_or}
use Rattle.std.proofs.Math.Path.{refl, ap}
use Rattle.std.proofs.Common.{◌∙◌}
use mathlib.Core.List.{List, [], ◌∷◌, ◌++◌, append_assoc, append-nil}
use Prim.Native.Nat.{ℕ, zero, suc, ◌+◌, ◌-◌, ◌≤◌, ◌<◌}
use native.Mathlib.Omega.{arith}
use borrow.Author.Tests.{lt-ltb, le-ltb}
use Rattle.std.proofs.Math.ListN.{length, length-append}
use Rattle.sizes.specs.Basics.{pick}
use Rattle.case_stream.specs.Stream.{Element, limit, Stop, Says, block, says}
use Rattle.case_stream.specs.Machine.{State, gather, acting, stopped, Room, has, less, halts, goes, after, gathered, takes, next, blocked, acts, moves, step, out, put, feed}
use Rattle.case_stream.proofs.Laws.Steps.{feed_halts, feed_goes, put_nil}
use Rattle.case_stream.proofs.Laws.Compose.{less_nil}

module _ (kinds : List ℕ) (bias : ℕ) (r : Room) (roomy : has r ≡ true) where
  -- ---- 1. steps

  pub room_halts : (t : State) (s : List ℕ) → moves kinds bias t s ≡ halts → feed kinds bias t s r ≡ out t s []
  unfolding step pick
  room_halts t s e = feed_halts kinds bias t s r (rw roomy e)

  pub room_goes : (t : State) (s : List ℕ) (t' : State) (s' : List ℕ) (es : List Element) → moves kinds bias t s ≡ goes t' s' es
      → feed kinds bias t s r ≡ put es (feed kinds bias t' s' (less r es))
  unfolding step pick
  room_goes t s t' s' es e = feed_goes kinds bias t s r t' s' es (rw roomy e)

  pub room_silent : (t : State) (s : List ℕ) (t' : State) (s' : List ℕ) → moves kinds bias t s ≡ goes t' s' [] → feed kinds bias t s r ≡ feed kinds bias t' s' r
  room_silent t s t' s' e = room_goes t s t' s' [] e ∙ put_nil (feed kinds bias t' s' (less r [])) ∙ rw less_nil

  pub room_stopped : (t : State) (s : List ℕ) (at n : ℕ) (w : Stop) → moves kinds bias t s ≡ goes (stopped at n w) s [] → feed kinds bias t s r ≡ out (stopped at n w) s []
  unfolding moves
  room_stopped t s at n w e = room_silent t s (stopped at n w) s e ∙ room_halts (stopped at n w) s refl

  pub moves_acting : (at n p c : ℕ) (cs k s : List ℕ) (y : Says) → says (get_or kinds at 0) bias c ≡ y
      → moves kinds bias (acting at n p c cs k) s ≡ acts kinds bias y at n p c cs k s
  unfolding moves
  moves_acting at n p c cs k s y e = ap (λ (z : Says). acts kinds bias z at n p c cs k s) e

  -- ---- 2. a group, byte by byte

  gather_byte : (at q : ℕ) (g : List ℕ) (b : ℕ) (bs : List ℕ) → q < limit
      → feed kinds bias (gather at q g) (b ∷ bs) r ≡ feed kinds bias (gathered at (q + 1) (g ++ b ∷ [])) bs r
  unfolding moves takes pick
  gather_byte at q g b bs h = room_silent (gather at q g) (b ∷ bs) (gathered at (q + 1) (g ++ b ∷ [])) bs (rw (lt-ltb q limit h))

  still_short : (at q : ℕ) (g : List ℕ) → length g < 8 → gathered at q g ≡ gather at q g
  unfolding gathered pick
  still_short at q g h = rw (lt-ltb (length g) 8 h)

  now_whole : (at q : ℕ) (g : List ℕ) → 8 ≤ length g → gathered at q g ≡ after at q (q - 8) g
  unfolding gathered pick
  now_whole at q g h = rw (le-ltb (length g) 8 h)

  pub gather_part : (at q : ℕ) (g s : List ℕ) → length g + length s < 8 → q + length s ≤ limit
      → feed kinds bias (gather at q g) s r ≡ out (gather at (q + length s) (g ++ s)) [] []
  unfolding moves takes
  gather_part at q g [] h l =
      let e : q + 0 ≡ q = omega arith in
      rw (append-nil, e) (room_halts (gather at q g) [] refl)
  gather_part at q g (b ∷ bs) h l =
      let e : q + 1 + length bs ≡ q + suc (length bs) = omega arith in
      let short : length (g ++ b ∷ []) < 8 = rw length-append (omega arith) in
      let ih = gather_part at (q + 1) (g ++ b ∷ []) bs (rw length-append (omega arith)) (omega arith) in
      gather_byte at q g b bs (omega arith) ∙ rw (still_short at (q + 1) (g ++ b ∷ []) short) (rw (append_assoc, e) at ih)

  pub gather_whole : (m at q : ℕ) (g s : List ℕ) → length g + suc m ≡ 8 → suc m ≤ length s → q + suc m ≤ limit
      → feed kinds bias (gather at q g) s r ≡ feed kinds bias (after at (q + suc m) (q + suc m - 8) (g ++ take (suc m) s)) (drop (suc m) s) r
  gather_whole m at q g [] e h l = absurd (omega arith)
  gather_whole zero at q g (b ∷ bs) e h l =
      let whole : 8 ≤ length (g ++ b ∷ []) = rw length-append (omega arith) in
      gather_byte at q g b bs (omega arith) ∙ rw (now_whole at (q + 1) (g ++ b ∷ []) whole)
  gather_whole (suc m) at q g (b ∷ bs) e h l =
      let f : q + 1 + suc m ≡ q + suc (suc m) = omega arith in
      let short : length (g ++ b ∷ []) < 8 = rw length-append (omega arith) in
      let ih = gather_whole m at (q + 1) (g ++ b ∷ []) bs (rw length-append (omega arith)) (omega arith) (omega arith) in
      gather_byte at q g b bs (omega arith) ∙ rw (still_short at (q + 1) (g ++ b ∷ []) short) (rw (append_assoc, f) at ih)

  -- ---- 3. a block, byte by byte

  module _ (at p c : ℕ) (cs : List ℕ) (is : says (get_or kinds at 0) bias c ≡ block) where
    block_short : (q : ℕ) (k : List ℕ) (b : ℕ) (bs : List ℕ) → q < limit → length (k ++ b ∷ []) < 8
        → feed kinds bias (acting at q p c cs k) (b ∷ bs) r ≡ feed kinds bias (acting at (q + 1) p c cs (k ++ b ∷ [])) bs r
    unfolding acts takes blocked pick
    block_short q k b bs h short = room_silent (acting at q p c cs k) (b ∷ bs) (acting at (q + 1) p c cs (k ++ b ∷ [])) bs
        (moves_acting at q p c cs k (b ∷ bs) block is ∙ rw (lt-ltb q limit h, lt-ltb (length (k ++ b ∷ [])) 8 short))

    block_last : (q : ℕ) (k : List ℕ) (b : ℕ) (bs : List ℕ) → q < limit → 8 ≤ length (k ++ b ∷ [])
        → feed kinds bias (acting at q p c cs k) (b ∷ bs) r
        ≡ put ((k ++ b ∷ []) ∷ []) (feed kinds bias (after (next kinds bias at) (q + 1) (p + 1) cs) bs (less r ((k ++ b ∷ []) ∷ [])))
    unfolding acts takes blocked pick
    block_last q k b bs h whole = room_goes (acting at q p c cs k) (b ∷ bs) (after (next kinds bias at) (q + 1) (p + 1) cs) bs ((k ++ b ∷ []) ∷ [])
        (moves_acting at q p c cs k (b ∷ bs) block is ∙ rw (lt-ltb q limit h, le-ltb (length (k ++ b ∷ [])) 8 whole))

    pub block_part : (q : ℕ) (k s : List ℕ) → length k + length s < 8 → q + length s ≤ limit
        → feed kinds bias (acting at q p c cs k) s r ≡ out (acting at (q + length s) p c cs (k ++ s)) [] []
    unfolding acts takes
    block_part q k [] h l =
        let e : q + 0 ≡ q = omega arith in
        rw (append-nil, e) (room_halts (acting at q p c cs k) [] (moves_acting at q p c cs k [] block is))
    block_part q k (b ∷ bs) h l =
        let e : q + 1 + length bs ≡ q + suc (length bs) = omega arith in
        let short : length (k ++ b ∷ []) < 8 = rw length-append (omega arith) in
        let ih = block_part (q + 1) (k ++ b ∷ []) bs (rw length-append (omega arith)) (omega arith) in
        block_short q k b bs (omega arith) short ∙ (rw (append_assoc, e) at ih)

    pub block_whole : (m q : ℕ) (k s : List ℕ) → length k + suc m ≡ 8 → suc m ≤ length s → q + suc m ≤ limit
        → feed kinds bias (acting at q p c cs k) s r
        ≡ put ((k ++ take (suc m) s) ∷ []) (feed kinds bias (after (next kinds bias at) (q + suc m) (p + 1) cs) (drop (suc m) s) (less r ((k ++ take (suc m) s) ∷ [])))
    block_whole m q k [] e h l = absurd (omega arith)
    block_whole zero q k (b ∷ bs) e h l =
        let whole : 8 ≤ length (k ++ b ∷ []) = rw length-append (omega arith) in
        block_last q k b bs (omega arith) whole
    block_whole (suc m) q k (b ∷ bs) e h l =
        let f : q + 1 + suc m ≡ q + suc (suc m) = omega arith in
        let short : length (k ++ b ∷ []) < 8 = rw length-append (omega arith) in
        let ih = block_whole m (q + 1) (k ++ b ∷ []) bs (rw length-append (omega arith)) (omega arith) (omega arith) in
        block_short q k b bs (omega arith) short ∙ (rw (append_assoc, f) at ih)
