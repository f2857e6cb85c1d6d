-- What the code answers on each of its branches, in the specification's terms.
use Rattle.std.specs.Prelude.{◌≡◌, Bool, true, false, List, [], ◌∷◌, ◌++◌, ℕ, suc, ◌+◌, ◌-◌, ◌/◌, ◌%◌, ◌≤◌, ◌<◌, ltb, get_or, take, drop, set}
use Rattle.std.proofs.Math.Path.{refl, sym}
use Rattle.std.proofs.Common.{ap, ◌∙◌, ⊎_elim, zero-add, add-one, arith, length-drop, length-take-le, lt-ltb, le-ltb, ne_eqb}
use Rattle.std.proofs.Math.ListN.{length, get_or-eq_default}
use Rattle.std.proofs.Math.Seq.{get_or-drop, length-sets}
use Rattle.std.proofs.lemmas.List.Edits.{sets, sets-eq}
use Rattle.sizes.specs.Basics.{pick}
use Rattle.convert.specs.Pages.{page_count, ascii, no_code_point, no_byte, page, listed, code_point, byte}
use Rattle.convert.specs.Utf8.{two_bytes, three_bytes, four_bytes, surrogates, encode, row_two, row_three, decode}
use Rattle.convert.specs.Convert.{Step, invalid, converts, to, from, way, valid_up_to, output}
use Rattle.convert.proofs.Laws.Pages.{side, point_high, point_byte, byte_low, byte_below, byte_none}
use Rattle.convert.proofs.Laws.Utf8.{encode_one, encode_two, encode_three, encode_four, encode_length, row_one_is, row_two_is, row_three_is, decoded_by, Decoded, from_one, from_two, from_three, from_four, encode_decode}
use Rattle.convert.proofs.Laws.Steps.{to_converts, to_invalid, from_converts, from_invalid}
use Rattle.ascii.specs.Runs.{Run}
use Rattle.ascii.specs.Laws.{ascii_one, ascii_more}
use Rattle.codepages.specs.Laws.Passes.{half, Tally, tally, tally_step, Grown, sets_append, Plain, passes_ascii, Passes, passes_one, Skips, skips, Found, found_some, Ready, not_refused, fits, Wrote, wrote}

pub past : (u : List ℕ) (i : ℕ) → length u ≤ i → 0 ≡ get_or u i 0
past u i h = sym (get_or-eq_default u 0 {n = i} h)

-- ---- a page

pub point_none : (k b e : ℕ) → ascii ≤ b → e ≡ get_or (page k) (b - ascii) 0 → e ≡ 0 → no_code_point ≡ code_point k b
unfolding listed pick
point_none k b e l q z = sym (point_high k b l ∙ rw (← q, z))

pub point_entry : (k b e : ℕ) → ascii ≤ b → e ≡ get_or (page k) (b - ascii) 0 → (e ≡ 0 → ⊥) → e ≡ code_point k b
unfolding listed pick
point_entry k b e l q z = sym (point_high k b l ∙ rw (← q, ne_eqb e 0 z))

-- ---- UTF-8

pub size_one : (c : ℕ) → c < two_bytes → 1 ≡ length (encode c)
size_one c h = rw (encode_one c h)

pub size_two : (c : ℕ) → two_bytes ≤ c → c < three_bytes → 2 ≡ length (encode c)
size_two c l h = rw (encode_two c l h)

pub size_three : (c : ℕ) → three_bytes ≤ c → c < four_bytes → 3 ≡ length (encode c)
size_three c l h = rw (encode_three c l h)

pub size_four : (c : ℕ) → four_bytes ≤ c → 4 ≡ length (encode c)
size_four c l = rw (encode_four c l)

-- by the first byte
unfoldable pub lead_size : ℕ → ℕ
lead_size a = pick (ltb a 128) 1 (pick (ltb a 224) 2 3)

pub lead_one : (a : ℕ) → a < 128 → 1 ≡ lead_size a
unfolding lead_size pick
lead_one a h = rw (lt-ltb a 128 h)

pub lead_two : (a : ℕ) → 128 ≤ a → a < 224 → 2 ≡ lead_size a
unfolding lead_size pick
lead_two a l h = rw (le-ltb a 128 l, lt-ltb a 224 h)

pub lead_three : (a : ℕ) → 224 ≤ a → 3 ≡ lead_size a
unfolding lead_size pick
lead_three a l = let k : 128 ≤ a = omega arith in rw (le-ltb a 128 k, le-ltb a 224 l)

-- ---- a character is stored

pub put_one : (o : List ℕ) (w c : ℕ) → c < two_bytes → (set o w c ≡ sets o w (encode c)) × (1 ≡ length (encode c))
put_one o w c h = rw (encode_one c h) (refl, refl)

pub put_two : (o : List ℕ) (w c : ℕ) → two_bytes ≤ c → c < three_bytes → (set (set o w (192 + c / 64)) (w + 1) (128 + c % 64) ≡ sets o w (encode c)) × (2 ≡ length (encode c))
put_two o w c l h = rw (encode_two c l h, add-one w) (refl, refl)

pub put_three : (o : List ℕ) (w c : ℕ) → three_bytes ≤ c → c < four_bytes
    → (set (set (set o w (224 + c / 4096)) (w + 1) (128 + c / 64 % 64)) (w + 2) (128 + c % 64) ≡ sets o w (encode c)) × (3 ≡ length (encode c))
put_three o w c l h = let e : w + 2 ≡ suc (suc w) = omega arith in rw (encode_three c l h, add-one w, e) (refl, refl)

-- ---- the character at a place

get_d_front : (u : List ℕ) (i : ℕ) → get_or (drop i u) 0 0 ≡ get_or u i 0
get_d_front u i = let e : i + 0 ≡ i = omega arith in rw e at (get_or-drop i u 0 0)

module _ (k : ℕ) (u : List ℕ) (i a : ℕ) (ea : a ≡ get_or u i 0) where
  pub lead : get_or (drop i u) 0 0 ≡ a
  lead = get_d_front u i ∙ sym ea

  pub decode_one : a < 128 → a ≡ byte k (decode (drop i u))
  unfolding decode
  decode_one h =
      let e : decode (drop i u) ≡ a = rw lead (row_one_is a _ _ _ h) in
      rw e (sym (byte_low k a h))

  pub decode_two : (b r : ℕ) → 128 ≤ a → a < 224 → b ≡ get_or u (i + 1) 0 → r ≡ row_two a b → r ≡ decode (drop i u)
  unfolding decode
  decode_two b r l h eb q = q ∙ sym (rw (lead, get_or-drop i u 1 0, ← eb) (row_two_is a b _ _ l h))

  pub decode_three : (b d r : ℕ) → 224 ≤ a → a < 240 → b ≡ get_or u (i + 1) 0 → d ≡ get_or u (i + 2) 0 → r ≡ row_three a b d → r ≡ decode (drop i u)
  unfolding decode
  decode_three b d r l h eb ed q = q ∙ sym (rw (lead, get_or-drop i u 1 0, get_or-drop i u 2 0, ← eb, ← ed) (row_three_is a b d _ l h))

  -- a character of four bytes stands in no page
  pub decode_four : k < page_count → 240 ≤ a → no_byte ≡ byte k (decode (drop i u))
  unfolding decode
  decode_four hk h = sym (⊎_elim value (λ (l : no_code_point ≤ decode (drop i u)). byte_none k (decode (drop i u)) hk (omega arith)) (side (decode (drop i u)) no_code_point))
    where
      by : (c : ℕ) → Decoded (get_or (drop i u) 0 0) (get_or (drop i u) 1 0) (get_or (drop i u) 2 0) (get_or (drop i u) 3 0) c → byte k c ≡ no_byte
      by c (from_one l e) = absurd (omega (arith, lead))
      by c (from_two l _ _ _) = absurd (omega (arith, lead))
      by c (from_three _ l _ _ _ _ _) = absurd (omega (arith, lead))
      by c (from_four _ _ _ _ _ _ _ s) = byte_none k c hk (omega (arith, s.above))

      value : decode (drop i u) < no_code_point → byte k (decode (drop i u)) ≡ no_byte
      value l = by (decode (drop i u)) (decoded_by (get_or (drop i u) 0 0) (get_or (drop i u) 1 0) (get_or (drop i u) 2 0) (get_or (drop i u) 3 0) (decode (drop i u)) l refl)

  -- a character of a page has as many bytes as its first one says
  pub lead_size_lem : k < page_count → byte k (decode (drop i u)) < no_byte → lead_size a ≡ length (encode (decode (drop i u)))
  unfolding decode
  lead_size_lem hk h =
      let below = byte_below k (byte k (decode (drop i u))) (decode (drop i u)) hk refl h in
      by (decode (drop i u)) below (decoded_by (get_or (drop i u) 0 0) (get_or (drop i u) 1 0) (get_or (drop i u) 2 0) (get_or (drop i u) 3 0) (decode (drop i u)) (omega arith) refl)
    where
      by : (c : ℕ) → c < surrogates → Decoded (get_or (drop i u) 0 0) (get_or (drop i u) 1 0) (get_or (drop i u) 2 0) (get_or (drop i u) 3 0) c → lead_size a ≡ length (encode c)
      by c b (from_one l e) = sym (lead_one a (omega (arith, lead))) ∙ size_one c (omega (arith, lead))
      by c b (from_two l lb hb s) = sym (lead_two a (omega (arith, lead, s.is, s.above)) (omega (arith, lead))) ∙ size_two c s.above (omega (arith, s.is))
      by c b (from_three l h _ _ _ _ s) = sym (lead_three a (omega (arith, lead))) ∙ size_three c s.above (omega arith)
      by c b (from_four _ _ _ _ _ _ _ s) = absurd (omega (arith, s.above))

-- ---- what is found at a place

pub way_from : (back : Bool) (k : ℕ) → back ≡ true → way back k ≡ from k
unfolding way
way_from back k e = rw e

pub way_to : (back : Bool) (k : ℕ) → back ≡ false → way back k ≡ to k
unfolding way
way_to back k e = rw e

-- bytes under 128 from i up to r
module _ {f : List ℕ → Step} (p : Plain f) {u : List ℕ} {i r : ℕ} (t : Run u i r) (h : i ≤ length u) where
  run_passes : Passes f u i (r - i) (take (r - i) (drop i u))
  run_passes = passes_ascii p u i (r - i) (omega (arith, t.onward, t.inside h)) t.all

  run_length : length (take (r - i) (drop i u)) ≡ r - i
  run_length = length-take-le (r - i) (drop i u) (omega (arith, length-drop i u, t.inside h))

  pub run_skips : Skips f u i (r - i) (r - i)
  run_skips = rw run_length at (skips run_passes)

  pub run_fits : {o : List ℕ} {w : ℕ} → Ready f u i o w → w + (r - i) ≤ length o
  run_fits q = rw run_length at (fits q run_passes)

  pub run_wrote : {o o' : List ℕ} {w : ℕ} → i < r → o' ≡ sets o w (take (r - i) (drop i u)) → Wrote f u i o w (r - i) (r - i) o'
  run_wrote l e = rw run_length at (wrote run_passes (omega arith) e)

-- a byte under 128, and those after it
pub run_found : {f : List ℕ → Step} → Plain f → (u : List ℕ) (i r : ℕ) → get_or u i 0 < ascii → i < length u → Run u (i + 1) r → length u < half → Found f u i (r - i) (r - i)
run_found p u i r a l t h =
    let z : r - i ≡ 1 + (r - (i + 1)) = omega (arith, t.onward) in
    let whole : Run u i r = record {
      onward = omega (arith, t.onward);
      inside = λ _. t.inside (omega arith);
      all = rw z (ascii_more u i 1 (r - (i + 1)) (ascii_one u i a) t.all);
    } in
    found_some (omega (arith, t.onward)) (run_skips p whole (omega arith)) (omega (arith, t.inside (omega arith)))

-- the run that a text begins with: both passes go on from its end
module _ {f : List ℕ → Step} (p : Plain f) {u : List ℕ} {r : ℕ} (t : Run u 0 r) where
  whole : r - 0 ≡ r
  whole = omega arith

  first_passes : Passes f u 0 r (take r u)
  first_passes = rw whole at (run_passes p t (omega arith))

  first_length : length (take r u) ≡ r
  first_length = rw whole at (run_length p t (omega arith))

  first_skips : Skips f u 0 r r
  first_skips = rw whole at (run_skips p t (omega arith))

  pub first_tally : (room : ℕ) → Tally f u room r r
  first_tally room =
      let g : Grown 0 r room r = record { grows = λ h. omega arith; stays = λ h. absurd (omega arith) } in
      rw zero-add at (tally_step (tally f u room) r first_skips g)

  pub first_fits : (room : ℕ) → length (output f 0 u) ≤ room → 0 + (r - 0) ≤ room
  first_fits room h = omega (arith, first_skips.counts)

  -- its n bytes are copied to the output o, which then is o'
  module _ (o o' : List ℕ) (n : ℕ) (h : length (output f 0 u) ≤ length o) (c : (o' ≡ sets o 0 (take (r - 0) (drop 0 u))) × (n ≡ r - 0)) where
    first_end : n ≡ r
    first_end = omega (arith, c.1)

    first_copied : o' ≡ sets o 0 (take r u)
    first_copied = let z : r - 0 ≡ r = omega arith in rw z at c.0

    pub first_ready : valid_up_to f 0 0 u ≡ length u → Ready f u n o' n
    first_ready e =
        let q : valid_up_to f 0 0 u ≡ valid_up_to f 0 r (drop r u) = rw zero-add at first_skips.goes in
        let y : length (output f 0 u) ≡ r + length (output f 0 (drop r u)) = rw zero-add at first_skips.counts in
        let l : length o' ≡ length o = ap length first_copied ∙ length-sets o 0 (take r u) in
        rw first_end (record { ends = sym q ∙ e; roomy = omega arith })

    pub first_rest : (m : ℕ) → m ≡ length (output f 0 u) → m ≡ n + length (output f 0 (drop n u))
    first_rest m e = rw first_end (e ∙ (rw zero-add at first_skips.counts))

    pub first_then : {o'' : List ℕ} → o'' ≡ sets o' n (output f 0 (drop n u)) → o'' ≡ output f 0 u ++ drop (length (output f 0 u)) o
    first_then q =
        let v = output f 0 u in
        let m : 0 + length v ≤ length o = omega arith in
        let w : v ≡ take r u ++ output f 0 (drop r u) = rw zero-add at first_passes.writes in
        let a = sets_append (take r u) (output f 0 (drop r u)) o 0 in
        let s : sets o 0 v ≡ sets (sets o 0 (take r u)) r (output f 0 (drop r u)) = rw w (rw (first_length, zero-add) at a) in
        (rw first_end at q) ∙ rw first_copied (sym s) ∙ sets-eq v o 0 m ∙ rw zero-add

-- to UTF-8
module _ (k : ℕ) (u : List ℕ) (i c : ℕ) (e : c ≡ code_point k (get_or u i 0)) where
  pub to_at : c < no_code_point → i < length u → Passes (to k) u i 1 (encode c)
  to_at h l = passes_one 0 (encode c) (to_converts k (drop i u) c (rw (get_d_front u i) (sym e)) h) (omega arith)

  pub to_none : no_code_point ≤ c → to k (drop i u) ≡ invalid
  to_none h = to_invalid k (drop i u) c (rw (get_d_front u i) (sym e)) h

  pub to_found : c < no_code_point → i < length u → (n : ℕ) → n ≡ length (encode c) → Found (to k) u i 1 n
  to_found h l n q = rw q (found_some (omega arith) (skips (to_at h l)) (omega (arith, encode_length c)))

  -- a code point of a page has at most three bytes
  pub to_ready : {o : List ℕ} {w : ℕ} → k < page_count → i < length u → Ready (to k) u i o w → (c < four_bytes) × Passes (to k) u i 1 (encode c)
  to_ready hk l t = ⊎_elim good (λ (m : no_code_point ≤ c). absurd (not_refused t l (to_none m))) (side c no_code_point)
    where
      good : c < no_code_point → (c < four_bytes) × Passes (to k) u i 1 (encode c)
      good m = (omega (arith, (point_byte k (get_or u i 0) c hk (sym e) m).below), to_at m l)

-- and back
module _ (k : ℕ) (u : List ℕ) (i b s : ℕ) (hk : k < page_count) (l : i < length u) (e : b ≡ byte k (decode (drop i u))) (size : s ≡ lead_size (get_or u i 0)) where
  size_of : b < no_byte → s ≡ length (encode (decode (drop i u)))
  size_of h = size ∙ lead_size_lem k u i (get_or u i 0) refl hk (rw (← e) h)

  pub from_at : b < no_byte → Passes (from k) u i s (b ∷ [])
  from_at h =
      let c = decode (drop i u) in
      let q = size_of h in
      let below = byte_below k b c hk (sym e) h in
      let d = length-drop i u in
      let t = encode_decode (drop i u) c (omega (arith, d)) refl (omega (arith, below)) in
      let z : suc (s - 1) ≡ s = omega (arith, q, (encode_length c).0) in
      let step : from k (drop i u) ≡ converts (s - 1) (b ∷ []) = rw q (from_converts k (drop i u) c b refl (sym e) h) in
      rw z at (passes_one {f = from k} {u = u} {i = i} (s - 1) (b ∷ []) step (omega (arith, z, q, t.inside, d)))

  pub from_some : b < no_byte → 0 < s
  from_some h = omega (arith, size_of h, (encode_length (decode (drop i u))).0)

  pub from_none : no_byte ≤ b → from k (drop i u) ≡ invalid
  from_none h = from_invalid k (drop i u) (decode (drop i u)) b refl (sym e) h

  pub from_found : b < no_byte → Found (from k) u i s 1
  from_found h = found_some (from_some h) (skips (from_at h)) (omega arith)

  pub from_ready : {o : List ℕ} {w : ℕ} → Ready (from k) u i o w → b < no_byte
  from_ready t = ⊎_elim (λ (h : b < no_byte). h) (λ (h : no_byte ≤ b). absurd (not_refused t l (from_none h))) (side b no_byte)
