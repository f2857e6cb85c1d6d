-- T-05: what `run` does with a whole stream is what the stream means, 7 at the limit included.
use Rattle.std.specs.Prelude.{◌≡◌, Bool, ltb, take, drop, get_or}
use Rattle.std.proofs.Math.Path.{refl, ap}
use Rattle.std.proofs.Common.{◌∙◌, take-append-drop}
use Rattle.std.proofs.Math.Bool.{true, false}
use mathlib.Core.List.{List, [], ◌∷◌, ◌++◌, append-nil}
use Prim.Native.Nat.{ℕ, zero, suc, ◌+◌, ◌-◌, ◌%◌, ◌≤◌, ◌<◌}
use Rattle.std.proofs.Math.Nat.{mod-add-mod, zero-mod}
use native.Mathlib.Omega.{arith}
use Rattle.std.proofs.Math.Dec.{leb}
use borrow.Author.Tests.{leb-true, leb-false, le-ltb}
use Rattle.std.proofs.Math.ListN.{length, length-take, length-drop}
use Rattle.sizes.specs.Basics.{pick}
use Rattle.case_stream.specs.Stream.{Element, limit, Stop, ended, bad, full, Says, skip, finish, block, wrong, gives, says, Why, in_group, in_block, stop, Meaning, means, with_element, kind_of, codes, groups, too_many, within, meaning}
use Rattle.case_stream.specs.Machine.{State, gather, acting, stopped, endless, has, less, Step, halts, goes, after, takes, next, blocked, acts, moves, out, put, run, start}
use Rattle.case_stream.specs.Cuts.{out_of}
use Rattle.case_stream.proofs.Laws.Compose.{w_endless, compose}
use Rattle.case_stream.proofs.Laws.Taken.{feed_keeps, run_idle}
use Rattle.case_stream.proofs.Laws.Whole.{room_halts, room_goes, room_silent, room_stopped, moves_acting, gather_part, gather_whole, block_part, block_whole}

module _ (kinds : List ℕ) (bias : ℕ) where
  -- ---- 1. the steps of `run`

  has_endless : has endless ≡ true
  unfolding has
  has_endless = refl

  out_more : (n : ℕ) (e : Element) (m : Meaning) → put (e ∷ []) (out_of kinds bias (n + 1) m) ≡ out_of kinds bias n (with_element e m)
  unfolding put with_element
  out_more n e (means es q r w) =
      let f : n + 1 + length es ≡ n + suc (length es) = omega arith in
      rw f

  next_of : (n : ℕ) → next kinds bias (n % length kinds) ≡ (n + 1) % length kinds
  unfolding next
  next_of n = simp mod-add-mod

  run_halts : (t : State) (s : List ℕ) → moves kinds bias t s ≡ halts → run kinds bias t s ≡ out t s []
  run_halts = room_halts kinds bias endless has_endless

  run_goes : (t : State) (s : List ℕ) (t' : State) (s' : List ℕ) (es : List Element) → moves kinds bias t s ≡ goes t' s' es
      → run kinds bias t s ≡ put es (run kinds bias t' s')
  unfolding less
  run_goes = room_goes kinds bias endless has_endless

  run_silent : (t : State) (s : List ℕ) (t' : State) (s' : List ℕ) → moves kinds bias t s ≡ goes t' s' [] → run kinds bias t s ≡ run kinds bias t' s'
  run_silent = room_silent kinds bias endless has_endless

  run_stopped : (t : State) (s : List ℕ) (at n : ℕ) (w : Stop) → moves kinds bias t s ≡ goes (stopped at n w) s [] → run kinds bias t s ≡ out (stopped at n w) s []
  run_stopped = room_stopped kinds bias endless has_endless

  -- ---- 2. the codes of a group, groups

  -- `next` gives the meaning of what follows, if that is at most L bytes
  abbrev Follows : ℕ → (ℕ → ℕ → List ℕ → Meaning) → Type 0
  Follows L follow = (n q : ℕ) (s : List ℕ) → length s ≤ L → q + length s ≤ limit → run kinds bias (gather (n % length kinds) q []) s ≡ out_of kinds bias n (follow n q s)

  module _ (follow : ℕ → ℕ → List ℕ → Meaning) (c : ℕ) (cs : List ℕ) (n p q : ℕ) (s : List ℕ) where
    abbrev Code : Meaning
    Code = codes kinds bias follow (c ∷ cs) n p q s

    code_skip : says (kind_of kinds bias n) bias c ≡ skip → Code ≡ codes kinds bias follow cs n (p + 1) q s
    unfolding codes
    code_skip e = rw (e, codes)

    code_finish : says (kind_of kinds bias n) bias c ≡ finish → Code ≡ means [] q s (stop ended)
    unfolding codes
    code_finish e = rw (e, codes)

    code_wrong : says (kind_of kinds bias n) bias c ≡ wrong → Code ≡ means [] q s (stop (bad p))
    unfolding codes
    code_wrong e = rw (e, codes)

    code_gives : (el : Element) → says (kind_of kinds bias n) bias c ≡ gives el → Code ≡ with_element el (codes kinds bias follow cs (n + 1) (p + 1) q s)
    unfolding codes
    code_gives el e = rw (e, codes)

    code_block : says (kind_of kinds bias n) bias c ≡ block → leb 8 (length s) ≡ true
        → Code ≡ with_element (take 8 s) (codes kinds bias follow cs (n + 1) (p + 1) (q + 8) (drop 8 s))
    unfolding codes
    code_block e h = rw (e, h, codes)

    code_part : says (kind_of kinds bias n) bias c ≡ block → leb 8 (length s) ≡ false → Code ≡ means [] (q + length s) [] (in_block p c cs s)
    unfolding codes
    code_part e h = rw (e, h, codes)

  no_more : (n : ℕ) → (n + 0) % length kinds ≡ n % length kinds
  no_more n = ap (λ (x : ℕ). x % length kinds) (omega arith)

  module _ (L : ℕ) (follow : ℕ → ℕ → List ℕ → Meaning) (f : Follows L follow) where
    abbrev Group : List ℕ → Type 0
    Group cs = (n p q : ℕ) (s : List ℕ) → length s ≤ L → q + length s ≤ limit
        → run kinds bias (after (n % length kinds) q p cs) s ≡ out_of kinds bias n (codes kinds bias follow cs n p q s)

    block_is : (c : ℕ) (cs : List ℕ) → Group cs → (n p q : ℕ) (s : List ℕ) → length s ≤ L → q + length s ≤ limit
        → says (kind_of kinds bias n) bias c ≡ block → (b : Bool) → leb 8 (length s) ≡ b
        → run kinds bias (acting (n % length kinds) q p c cs []) s ≡ out_of kinds bias n (codes kinds bias follow (c ∷ cs) n p q s)
    unfolding less
    block_is c cs ih n p q s h l e true t =
        let w = leb-true 8 (length s) t in
        block_whole kinds bias endless has_endless (n % length kinds) p c cs e 7 q [] s refl w (omega arith)
        ∙ rw (code_block follow c cs n p q s e t, next_of, ih (n + 1) (p + 1) (q + 8) (drop 8 s) (omega (arith, length-drop 8 s)) (omega (arith, length-drop 8 s)))
        (out_more n (take 8 s) (codes kinds bias follow cs (n + 1) (p + 1) (q + 8) (drop 8 s)))
    block_is c cs ih n p q s h l e false t =
        rw (code_part follow c cs n p q s e t, no_more) (block_part kinds bias endless has_endless (n % length kinds) p c cs e q [] s (omega (arith, leb-false 8 (length s) t)) l)

    code_is : (c : ℕ) (cs : List ℕ) → Group cs → (n p q : ℕ) (s : List ℕ) → length s ≤ L → q + length s ≤ limit → (y : Says) → says (kind_of kinds bias n) bias c ≡ y
        → run kinds bias (acting (n % length kinds) q p c cs []) s ≡ out_of kinds bias n (codes kinds bias follow (c ∷ cs) n p q s)
    unfolding acts
    code_is c cs ih n p q s h l skip e =
        run_silent _ s (after (n % length kinds) q (p + 1) cs) s (moves_acting kinds bias endless has_endless (n % length kinds) q p c cs [] s skip e)
        ∙ rw (code_skip follow c cs n p q s e) (ih n (p + 1) q s h l)
    code_is c cs ih n p q s h l finish e =
        rw (code_finish follow c cs n p q s e, no_more)
        (run_stopped _ s (n % length kinds) q ended (moves_acting kinds bias endless has_endless (n % length kinds) q p c cs [] s finish e))
    code_is c cs ih n p q s h l wrong e =
        rw (code_wrong follow c cs n p q s e, no_more)
        (run_stopped _ s (n % length kinds) q (bad p) (moves_acting kinds bias endless has_endless (n % length kinds) q p c cs [] s wrong e))
    code_is c cs ih n p q s h l (gives el) e =
        run_goes _ s (after (next kinds bias (n % length kinds)) q (p + 1) cs) s (el ∷ []) (moves_acting kinds bias endless has_endless (n % length kinds) q p c cs [] s (gives el) e)
        ∙ rw (code_gives follow c cs n p q s el e, next_of, ih (n + 1) (p + 1) q s h l)
        (out_more n el (codes kinds bias follow cs (n + 1) (p + 1) q s))
    code_is c cs ih n p q s h l block e = block_is c cs ih n p q s h l e (leb 8 (length s)) refl

    codes_are : (cs : List ℕ) → Group cs
    unfolding codes after
    codes_are [] n p q s h l = f n q s h l
    codes_are (c ∷ cs) n p q s h l = code_is c cs (codes_are cs) n p q s h l (says (kind_of kinds bias n) bias c) refl

  groups_whole : (g n q : ℕ) (s : List ℕ) → leb 8 (length s) ≡ true → groups kinds bias (suc g) n q s ≡ codes kinds bias (groups kinds bias g) (take 8 s) n q (q + 8) (drop 8 s)
  unfolding groups
  groups_whole g n q s e = rw (e, groups)

  groups_part : (g n q : ℕ) (s : List ℕ) → leb 8 (length s) ≡ false → groups kinds bias (suc g) n q s ≡ means [] (q + length s) [] (in_group s)
  unfolding groups
  groups_part g n q s e = rw (e, groups)

  group_is : (g : ℕ) → ((n q : ℕ) (s : List ℕ) → length s < g → q + length s ≤ limit → run kinds bias (gather (n % length kinds) q []) s ≡ out_of kinds bias n (groups kinds bias g n q s))
      → (n q : ℕ) (s : List ℕ) → length s < suc g → q + length s ≤ limit → (b : Bool) → leb 8 (length s) ≡ b
      → run kinds bias (gather (n % length kinds) q []) s ≡ out_of kinds bias n (groups kinds bias (suc g) n q s)
  group_is g ih n q s h l true t =
      let w = leb-true 8 (length s) t in
      let back : q + 8 - 8 ≡ q = omega arith in
      gather_whole kinds bias endless has_endless 7 (n % length kinds) q [] s refl w (omega arith)
      ∙ rw (groups_whole g n q s t, back)
      (codes_are (length s - 8) (groups kinds bias g) (λ n₁ q₁ s₁ h₁ l₁. ih n₁ q₁ s₁ (omega arith) l₁) (take 8 s) n q (q + 8) (drop 8 s) (omega (arith, length-drop 8 s)) (omega (arith, length-drop 8 s)))
  group_is g ih n q s h l false t = rw (groups_part g n q s t, no_more) (gather_part kinds bias endless has_endless (n % length kinds) q [] s (omega (arith, leb-false 8 (length s) t)) l)

  groups_are : (g n q : ℕ) (s : List ℕ) → length s < g → q + length s ≤ limit → run kinds bias (gather (n % length kinds) q []) s ≡ out_of kinds bias n (groups kinds bias g n q s)
  groups_are zero n q s h l = absurd (omega arith)
  groups_are (suc g) n q s h l = group_is g (groups_are g) n q s h l (leb 8 (length s)) refl

  -- ---- 3. the byte too many

  data Moving : Step → Type 0 where
    moving : {t : State} {s : List ℕ} {es : List Element} → Moving (goes t s es)

  moving_pick : (b : Bool) {x y : Step} → Moving x → Moving y → Moving (pick b x y)
  unfolding pick
  moving_pick true h k = h
  moving_pick false h k = k

  not_idle : (x : Step) → Moving x → x ≡ halts → ⊥
  not_idle halts x3 e = elim x3 [ ]
  not_idle (goes t s es) moving e = let z : ◌≡◌ {A = ℕ} 0 1 = cc in omega arith

  acts_idle : (y : Says) (at n p c : ℕ) (cs k s : List ℕ) → acts kinds bias y at n p c cs k s ≡ halts → (y ≡ block) × (s ≡ [])
  unfolding acts takes blocked
  acts_idle skip at n p c cs k s e = absurd (not_idle _ moving e)
  acts_idle finish at n p c cs k s e = absurd (not_idle _ moving e)
  acts_idle wrong at n p c cs k s e = absurd (not_idle _ moving e)
  acts_idle (gives el) at n p c cs k s e = absurd (not_idle _ moving e)
  acts_idle block at n p c cs k [] e = (refl, refl)
  acts_idle block at n p c cs k (b ∷ bs) e = absurd (not_idle _ (moving_pick (ltb n limit) (moving_pick (ltb (length (k ++ b ∷ [])) 8) moving moving) moving) e)

  gather_idle : (at n : ℕ) (g s : List ℕ) → moves kinds bias (gather at n g) s ≡ halts → s ≡ []
  unfolding moves takes
  gather_idle at n g [] e = refl
  gather_idle at n g (b ∷ bs) e = absurd (not_idle _ (moving_pick (ltb n limit) moving moving) e)

  takes_full : (at q b : ℕ) (bs : List ℕ) (k : ℕ → List ℕ → Step) → limit ≤ q → takes at q (b ∷ bs) k ≡ goes (stopped at q full) (b ∷ bs) []
  unfolding takes pick
  takes_full at q b bs k h = rw (le-ltb q limit h)

  module _ (b : ℕ) (bs a : List ℕ) (l : length a ≡ limit) where
    beyond : (es : List Element) (q : ℕ) (r : List ℕ) (w : Why) → run kinds bias start a ≡ out_of kinds bias 0 (means es q r w)
        → run kinds bias start (a ++ b ∷ bs) ≡ out_of kinds bias 0 (too_many kinds bias (b ∷ bs) (means es q r w))
    unfolding too_many put moves acts less
    beyond es q r (stop w) e =
        let at = (0 + length es) % length kinds in
        compose kinds bias start a (b ∷ bs) endless endless w_endless (stopped at q w) r es e
        ∙ rw (run_halts (stopped at q w) (r ++ b ∷ bs) refl, append-nil)
    beyond es q r (in_group g) e =
        let at = (0 + length es) % length kinds in
        let none : r ≡ [] = gather_idle at q g r (run_idle kinds bias start a (gather at q g) r es e) in
        let all : q + length r ≡ 0 + length a = feed_keeps kinds bias start a endless (gather at q g) r es e in
        let here : limit ≤ q = omega (arith, ap length none) in
        compose kinds bias start a (b ∷ bs) endless endless w_endless (gather at q g) r es e
        ∙ rw none (rw (run_stopped (gather at q g) (b ∷ bs) at q full (takes_full at q b bs _ here), append-nil))
    beyond es q r (in_block p c cs k) e =
        let at = (0 + length es) % length kinds in
        let none = acts_idle (says (get_or kinds at 0) bias c) at q p c cs k r (run_idle kinds bias start a (acting at q p c cs k) r es e) in
        let all : q + length r ≡ 0 + length a = feed_keeps kinds bias start a endless (acting at q p c cs k) r es e in
        let here : limit ≤ q = omega (arith, ap length none.1) in
        compose kinds bias start a (b ∷ bs) endless endless w_endless (acting at q p c cs k) r es e
        ∙ rw none.1 (rw (run_stopped (acting at q p c cs k) (b ∷ bs) at q full (moves_acting kinds bias endless has_endless at q p c cs k (b ∷ bs) block none.0 ∙ takes_full at q b bs _ here), append-nil))

    too_many_is : (m : Meaning) → run kinds bias start a ≡ out_of kinds bias 0 m → run kinds bias start (a ++ b ∷ bs) ≡ out_of kinds bias 0 (too_many kinds bias (b ∷ bs) m)
    too_many_is (means es q r w) e = beyond es q r w e

  within_is : (s : List ℕ) → length s ≤ limit → run kinds bias start s ≡ out_of kinds bias 0 (within kinds bias s)
  unfolding within
  within_is s h = rw zero-mod at (groups_are (suc (length s)) 0 0 s (omega arith) (omega arith))

  cut_is : (a d : List ℕ) → length a ≡ limit → 0 < length d → run kinds bias start (a ++ d) ≡ out_of kinds bias 0 (too_many kinds bias d (within kinds bias a))
  cut_is a [] l h = absurd (omega arith)
  cut_is a (b ∷ bs) l h = too_many_is b bs a l (within kinds bias a) (within_is a (omega arith))

  pub run_means : (s : List ℕ) → run kinds bias start s ≡ out_of kinds bias 0 (meaning kinds bias s)
  unfolding meaning pick
  run_means s = by (leb (length s) limit) refl
    where
      by : (b : Bool) → leb (length s) limit ≡ b → run kinds bias start s ≡ out_of kinds bias 0 (pick b (within kinds bias s) (too_many kinds bias (drop limit s) (within kinds bias (take limit s))))
      by true t = within_is s (leb-true (length s) limit t)
      by false t =
          let over : limit < length s = leb-false (length s) limit t in
          let l : length (take limit s) ≡ limit = omega (arith, length-take limit s) in
          let d : 0 < length (drop limit s) = omega (arith, length-drop limit s) in
          rw (take-append-drop limit s) at (cut_is (take limit s) (drop limit s) l d)
