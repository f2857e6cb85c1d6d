-- Both directions write exactly the text that is the same; so what one writes the other turns back, page by page (document 02, T-08).
use Rattle.std.specs.Prelude.{◌≡◌, refl, Bool, true, false, List, [], ◌∷◌, ◌++◌, ◌⊎◌, ◌↔◌, ℕ, zero, suc, ◌+◌, ◌-◌, ◌≤◌, ◌<◌, ltb, length, get_or, drop}
use Rattle.std.proofs.Common.{sym, ap, ◌∙◌, append-nil, append_assoc, inl, inr, ⊎_elim, arith, length-append, length-drop, ltb-true, ltb-false, lt-ltb, le-ltb}
use Rattle.std.proofs.Math.Seq.{drop-append_seam}
use Rattle.sizes.specs.Basics.{pick}
use Rattle.convert.specs.Pages.{first_page, page_count, no_code_point, no_byte, code_point, byte}
use Rattle.convert.specs.Utf8.{encode, decode}
use Rattle.convert.specs.Convert.{SameText, empty, more, Step, invalid, converts, to, from, valid_up_to, output, unknown_page, no_character, output_short, Outcome, refused, written, outcome, converted}
use Rattle.convert.proofs.Laws.Pages.{side, point_byte, byte_point, byte_below}
use Rattle.convert.proofs.Laws.Utf8.{encode_length, scalar_below, decode_encode, encode_decode}
use Rattle.convert.proofs.Laws.Steps.{up_to_step, output_step, up_to_invalid, output_invalid, up_to_end, output_end, up_to_most, to_converts, to_invalid, from_converts, from_invalid}

-- ---- what a direction makes of a text that is the same as another

-- all of u is converted, to v
pub record Whole (f : List ℕ → Step) (u v : List ℕ) : Type 0 where
  pub ends : (p : ℕ) → valid_up_to f 0 p u ≡ p + length u
  pub writes : output f 0 u ≡ v

whole_end : (f : List ℕ → Step) → Whole f [] []
whole_end f = record { ends = λ p. up_to_end f p ∙ omega arith; writes = output_end f }

whole_more : (f : List ℕ → Step) (x u o v : List ℕ) → 0 < length x → f (x ++ u) ≡ converts (length x - 1) o → Whole f u v → Whole f (x ++ u) (o ++ v)
whole_more f x u o v l e w =
    let z : suc (length x - 1) ≡ length x = omega arith in
    let h : suc (length x - 1) ≤ length (x ++ u) = omega (arith, length-append x u) in
    let d : drop (suc (length x - 1)) (x ++ u) ≡ u = rw z (drop-append_seam x u) in
    record {
      ends = λ p. (rw z at (rw d at (up_to_step f p (x ++ u) (length x - 1) o e h))) ∙ w.ends (p + length x) ∙ omega (arith, length-append x u);
      writes = (rw d at (output_step f (x ++ u) (length x - 1) o e h)) ∙ ap (λ (y : List ℕ). o ++ y) w.writes;
    }

pub to_whole : {k : ℕ} {v u : List ℕ} → SameText k v u → Whole (to k) v u
to_whole {k} empty = whole_end (to k)
to_whole {k} (more {b} {c} {v} {u} e h s) = whole_more (to k) (b ∷ []) v (encode c) u (omega arith) (to_converts k (b ∷ v) c e h) (to_whole s)

pub from_whole : {k : ℕ} {v u : List ℕ} → k < page_count → SameText k v u → Whole (from k) u v
from_whole {k} hk empty = whole_end (from k)
from_whole {k} hk (more {b} {c} {v} {u} e h s) =
    let m = point_byte k b c hk e h in
    whole_more (from k) (encode c) u (b ∷ []) v (encode_length c).0 (from_converts k (encode c ++ u) c b (decode_encode c u (scalar_below c m.below)) m.back m.octet) (from_whole hk s)

-- ---- where a direction stops

-- u is x and y: x is converted to v, and y is empty or has a character at its front that is refused
pub record Stops (f : List ℕ → Step) (Same : List ℕ → List ℕ → Type 0) (u : List ℕ) : Type 0 where
  pub x : List ℕ
  pub y : List ℕ
  pub v : List ℕ
  pub parts : u ≡ x ++ y
  pub same : Same x v
  pub place : (p : ℕ) → valid_up_to f 0 p u ≡ p + length x
  pub writes : output f 0 u ≡ v
  pub rest : (y ≡ []) ⊎ ((0 < length y) × (f y ≡ invalid))

module _ (f : List ℕ → Step) (Same : List ℕ → List ℕ → Type 0) (none : Same [] []) where
  stops_end : Stops f Same []
  stops_end = record { x = []; y = []; v = []; parts = refl; same = none; place = λ p. up_to_end f p ∙ omega arith; writes = output_end f; rest = inl refl }

  stops_here : (u : List ℕ) → 0 < length u → f u ≡ invalid → Stops f Same u
  stops_here u l e = record { x = []; y = u; v = []; parts = refl; same = none; place = λ p. up_to_invalid f p u e ∙ omega arith; writes = output_invalid f u e; rest = inr (l, e) }

  stops_later : (w u o : List ℕ) → 0 < length w → f (w ++ u) ≡ converts (length w - 1) o → (s : Stops f Same u) → Same (w ++ s.x) (o ++ s.v) → Stops f Same (w ++ u)
  stops_later w u o l e s h =
      let z : suc (length w - 1) ≡ length w = omega arith in
      let m : suc (length w - 1) ≤ length (w ++ u) = omega (arith, length-append w u) in
      let d : drop (suc (length w - 1)) (w ++ u) ≡ u = rw z (drop-append_seam w u) in
      record {
        x = w ++ s.x;
        y = s.y;
        v = o ++ s.v;
        parts = ap (λ (q : List ℕ). w ++ q) s.parts ∙ sym (append_assoc w s.x s.y);
        same = h;
        place = λ p. (rw z at (rw d at (up_to_step f p (w ++ u) (length w - 1) o e m))) ∙ s.place (p + length w) ∙ omega (arith, length-append w s.x);
        writes = (rw d at (output_step f (w ++ u) (length w - 1) o e m)) ∙ ap (λ (q : List ℕ). o ++ q) s.writes;
        rest = s.rest;
      }

abbrev Into : ℕ → List ℕ → List ℕ → Type 0
Into k v u = SameText k v u

abbrev Back : ℕ → List ℕ → List ℕ → Type 0
Back k u v = SameText k v u

pub to_stops : (k : ℕ) (v : List ℕ) → Stops (to k) (Into k) v
to_stops k [] = stops_end (to k) (Into k) empty
to_stops k (b ∷ v) = ⊎_elim (good (to_stops k v)) bad (side (code_point k b) no_code_point)
  where
    good : Stops (to k) (Into k) v → code_point k b < no_code_point → Stops (to k) (Into k) (b ∷ v)
    good s l =
        stops_later (to k) (Into k) empty (b ∷ []) v (encode (code_point k b)) (omega arith) (to_converts k (b ∷ v) (code_point k b) refl l) s (more refl l s.same)

    bad : no_code_point ≤ code_point k b → Stops (to k) (Into k) (b ∷ v)
    bad l = stops_here (to k) (Into k) empty (b ∷ v) (omega arith) (to_invalid k (b ∷ v) (code_point k b) refl l)

-- by induction over a bound of the length, since a character takes several bytes
pub from_stops : (k : ℕ) → k < page_count → (n : ℕ) (u : List ℕ) → length u ≤ n → Stops (from k) (Back k) u
from_stops k hk zero [] m = stops_end (from k) (Back k) empty
from_stops k hk (suc n) [] m = stops_end (from k) (Back k) empty
from_stops k hk zero (a ∷ u) m = absurd (omega arith)
from_stops k hk (suc n) (a ∷ u) m = ⊎_elim (good (λ w. from_stops k hk n w)) bad (side (byte k (decode (a ∷ u))) no_byte)
  where
    good : ((w : List ℕ) → length w ≤ n → Stops (from k) (Back k) w) → byte k (decode (a ∷ u)) < no_byte → Stops (from k) (Back k) (a ∷ u)
    good ih l =
        let c = decode (a ∷ u) in
        let b = byte k c in
        let below = byte_below k b c hk refl l in
        let t = encode_decode (a ∷ u) c (omega arith) refl (omega arith) in
        let r = drop (length (encode c)) (a ∷ u) in
        let some = (encode_length c).0 in
        let s = ih r (omega (arith, length-drop (length (encode c)) (a ∷ u), some)) in
        let e : from k (encode c ++ r) ≡ converts (length (encode c) - 1) (b ∷ []) = from_converts k (encode c ++ r) c b (decode_encode c r t.value) refl l in
        rw t.front (stops_later (from k) (Back k) empty (encode c) r (b ∷ []) some e s (more (byte_point k b c refl l) (omega arith) s.same))

    bad : no_byte ≤ byte k (decode (a ∷ u)) → Stops (from k) (Back k) (a ∷ u)
    bad l = stops_here (from k) (Back k) empty (a ∷ u) (omega arith) (from_invalid k (a ∷ u) (decode (a ∷ u)) (byte k (decode (a ∷ u))) refl refl l)

-- ---- the theorems, for page k

wrote : (f : List ℕ → Step) (room : ℕ) (u v : List ℕ) → outcome f room u ≡ written v → (length u ≤ valid_up_to f 0 0 u) × (output f 0 u ≡ v) × (length v ≤ room)
unfolding outcome pick
wrote f room u v e = whole (ltb (valid_up_to f 0 0 u) (length u)) refl e
  where
    roomy : (t : Bool) → ltb room (length (output f 0 u)) ≡ t → pick t (refused output_short 0) (written (output f 0 u)) ≡ written v → (output f 0 u ≡ v) × (length v ≤ room)
    roomy true q e = let z : ◌≡◌ {A = ℕ} 0 1 = cc in absurd (omega arith)
    roomy false q e = let o : output f 0 u ≡ v = cc in (o, rw o at (ltb-false room (length (output f 0 u)) q))

    whole : (t : Bool) → ltb (valid_up_to f 0 0 u) (length u) ≡ t → pick t (refused no_character (valid_up_to f 0 0 u)) (pick (ltb room (length (output f 0 u))) (refused output_short 0) (written (output f 0 u))) ≡ written v
        → (length u ≤ valid_up_to f 0 0 u) × (output f 0 u ≡ v) × (length v ≤ room)
    whole true q e = let z : ◌≡◌ {A = ℕ} 0 1 = cc in absurd (omega arith)
    whole false q e = let r = roomy (ltb room (length (output f 0 u))) refl e in (ltb-false (valid_up_to f 0 0 u) (length u) q, r.0, r.1)

writes_whole : (f : List ℕ → Step) (room : ℕ) (u v : List ℕ) → Whole f u v → length v ≤ room → outcome f room u ≡ written v
unfolding outcome pick
writes_whole f room u v w h =
    let l : length (output f 0 u) ≤ room = rw w.writes h in
    rw (le-ltb (valid_up_to f 0 0 u) (length u) (omega (arith, w.ends 0)), le-ltb room (length (output f 0 u)) l) (ap written w.writes)

stops_whole : {f : List ℕ → Step} {Same : List ℕ → List ℕ → Type 0} {u : List ℕ} (v : List ℕ) → Stops f Same u → length u ≤ valid_up_to f 0 0 u → output f 0 u ≡ v → Same u v
stops_whole {f} {Same} {u} v s h o =
    let z : length s.y ≡ 0 = omega (arith, s.place 0, ap length s.parts, length-append s.x s.y) in
    let n : s.y ≡ [] = nothing s.y z in
    let e : u ≡ s.x = s.parts ∙ ap (λ (y : List ℕ). s.x ++ y) n ∙ append-nil s.x in
    let w : s.v ≡ v = sym s.writes ∙ o in
    rw (e, ← w) s.same
  where
    nothing : (y : List ℕ) → length y ≡ 0 → y ≡ []
    nothing [] h = refl
    nothing (a ∷ y) h = absurd (omega arith)

-- to UTF-8 exactly the same text is written, where there is room for it
pub to_exactly : (k room : ℕ) (v u : List ℕ) → outcome (to k) room v ≡ written u ↔ SameText k v u × (length u ≤ room)
to_exactly k room v u = (
  (λ e. let w = wrote (to k) room v u e in (stops_whole u (to_stops k v) w.0 w.1, w.2)),
  (λ s. writes_whole (to k) room v u (to_whole s.0) s.1),
)

-- and from it: so the decoder accepts exactly the well-formed shortest-form UTF-8 of characters in the page
pub from_exactly : (k : ℕ) → k < page_count → (room : ℕ) (u v : List ℕ) → outcome (from k) room u ≡ written v ↔ SameText k v u × (length v ≤ room)
from_exactly k hk room u v = (
  (λ e. let w = wrote (from k) room u v e in (stops_whole v (from_stops k hk (length u) u (omega arith)) w.0 w.1, w.2)),
  (λ s. writes_whole (from k) room u v (from_whole hk s.0) s.1),
)

-- ---- the pages by their numbers

known : (f : ℕ → List ℕ → Step) (page room : ℕ) (u v : List ℕ) → converted f page room u ≡ written v
    → (first_page ≤ page) × (page - first_page < page_count) × (outcome (f (page - first_page)) room u ≡ written v)
unfolding converted pick
known f page room u v e = low (ltb page first_page) refl e
  where
    high : (t : Bool) → ltb (page - first_page) page_count ≡ t → pick t (outcome (f (page - first_page)) room u) (refused unknown_page 0) ≡ written v
        → (page - first_page < page_count) × (outcome (f (page - first_page)) room u ≡ written v)
    high true q e = (ltb-true (page - first_page) page_count q, e)
    high false q e = let z : ◌≡◌ {A = ℕ} 0 1 = cc in absurd (omega arith)

    low : (t : Bool) → ltb page first_page ≡ t → pick t (refused unknown_page 0) (pick (ltb (page - first_page) page_count) (outcome (f (page - first_page)) room u) (refused unknown_page 0)) ≡ written v
        → (first_page ≤ page) × (page - first_page < page_count) × (outcome (f (page - first_page)) room u ≡ written v)
    low true q e = let z : ◌≡◌ {A = ℕ} 0 1 = cc in absurd (omega arith)
    low false q e = let r = high (ltb (page - first_page) page_count) refl e in (ltb-false page first_page q, r.0, r.1)

pub page_known : (f : ℕ → List ℕ → Step) (page room : ℕ) (u : List ℕ) → first_page ≤ page → page - first_page < page_count → converted f page room u ≡ outcome (f (page - first_page)) room u
unfolding converted pick
page_known f page room u l h = rw (le-ltb page first_page l, lt-ltb (page - first_page) page_count h)

-- "What one direction writes the other turns back, page by page" (document 02, T-08)
pub turned_back : (page room : ℕ) (v u : List ℕ) → converted to page room v ≡ written u → (wide : ℕ) → length v ≤ wide → converted from page wide u ≡ written v
turned_back page room v u e wide h =
    let p = known to page room v u e in
    let s = (to_exactly (page - first_page) room v u).0 p.2 in
    page_known from page wide u p.0 p.1 ∙ (from_exactly (page - first_page) p.1 wide u v).1 (s.0, h)

-- and the other way round
pub turned_again : (page room : ℕ) (u v : List ℕ) → converted from page room u ≡ written v → (wide : ℕ) → length u ≤ wide → converted to page wide v ≡ written u
turned_again page room u v e wide h =
    let p = known from page room u v e in
    let s = (from_exactly (page - first_page) p.1 room u v).0 p.2 in
    page_known to page wide v p.0 p.1 ∙ (to_exactly (page - first_page) wide v u).1 (s.0, h)

-- ---- refusal 25

refuses : (f : List ℕ → Step) (room : ℕ) (u : List ℕ) (p : ℕ) → outcome f room u ≡ refused no_character p → (p ≡ valid_up_to f 0 0 u) × (p < length u)
unfolding outcome pick
refuses f room u p e = whole (ltb (valid_up_to f 0 0 u) (length u)) refl e
  where
    roomy : (t : Bool) → pick t (refused output_short 0) (written (output f 0 u)) ≡ refused no_character p → ⊥
    roomy true e = let z : ◌≡◌ {A = ℕ} output_short no_character = cc in omega arith
    roomy false e = let z : ◌≡◌ {A = ℕ} 0 1 = cc in omega arith

    whole : (t : Bool) → ltb (valid_up_to f 0 0 u) (length u) ≡ t → pick t (refused no_character (valid_up_to f 0 0 u)) (pick (ltb room (length (output f 0 u))) (refused output_short 0) (written (output f 0 u))) ≡ refused no_character p
        → (p ≡ valid_up_to f 0 0 u) × (p < length u)
    whole true q e = let z : p ≡ valid_up_to f 0 0 u = cc in (z, rw z (ltb-true (valid_up_to f 0 0 u) (length u) q))
    whole false q e = absurd (roomy (ltb room (length (output f 0 u))) e)

-- what comes before the place of 25 is a text of the page, and no character of the page begins there
pub record Refuses (f : List ℕ → Step) (Same : List ℕ → List ℕ → Type 0) (u : List ℕ) (p : ℕ) : Type 0 where
  pub x : List ℕ
  pub y : List ℕ
  pub v : List ℕ
  pub parts : u ≡ x ++ y
  pub same : Same x v
  pub place : length x ≡ p
  pub next : f y ≡ invalid

refuses_there : {f : List ℕ → Step} {Same : List ℕ → List ℕ → Type 0} {u : List ℕ} (p : ℕ) → Stops f Same u → p ≡ valid_up_to f 0 0 u → p < length u → Refuses f Same u p
refuses_there {f} {Same} {u} p s e h =
    let z : length s.x ≡ p = omega (arith, e, s.place 0) in
    record { x = s.x; y = s.y; v = s.v; parts = s.parts; same = s.same; place = z; next = ⊎_elim none (λ r. r.1) s.rest }
  where
    none : s.y ≡ [] → f s.y ≡ invalid
    none n = absurd (omega (arith, e, s.place 0, ap length s.parts, length-append s.x s.y, ap length n))

pub to_refuses : (k room : ℕ) (v : List ℕ) (p : ℕ) → outcome (to k) room v ≡ refused no_character p → Refuses (to k) (Into k) v p
to_refuses k room v p e = let r = refuses (to k) room v p e in refuses_there p (to_stops k v) r.0 r.1

pub from_refuses : (k : ℕ) → k < page_count → (room : ℕ) (u : List ℕ) (p : ℕ) → outcome (from k) room u ≡ refused no_character p → Refuses (from k) (Back k) u p
from_refuses k hk room u p e = let r = refuses (from k) room u p e in refuses_there p (from_stops k hk (length u) u (omega arith)) r.0 r.1

-- no character of the page begins a text that `from` refuses
pub none_begins : (k : ℕ) → k < page_count → (y : List ℕ) → from k y ≡ invalid → (b c : ℕ) (r : List ℕ) → code_point k b ≡ c → c < no_code_point → y ≡ encode c ++ r → ⊥
none_begins k hk y e b c r q h z =
    let m = point_byte k b c hk q h in
    let t : from k y ≡ converts (length (encode c) - 1) (b ∷ []) = rw z (from_converts k (encode c ++ r) c b (decode_encode c r (scalar_below c m.below)) m.back m.octet) in
    let w : ◌≡◌ {A = ℕ} 0 1 = cc in
    omega arith
