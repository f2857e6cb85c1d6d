-- What is encoded is decoded, and what is decoded was encoded: so the decoder takes exactly the well-formed sequences, in their shortest form.
use Rattle.std.specs.Prelude.{◌≡◌, refl, Bool, true, false, List, [], ◌∷◌, ◌++◌, ◌⊎◌, ℕ, ◌+◌, ◌-◌, ◌*◌, ◌/◌, ◌%◌, ◌≤◌, ◌<◌, ltb, length, get_or, drop}
use Rattle.std.proofs.Common.{sym, ◌∙◌, ⊎_elim, arith, ltb-true, ltb-false, lt-ltb, le-ltb}
use Rattle.sizes.specs.Basics.{pick}
use Rattle.convert.specs.Pages.{ascii, no_code_point}
use Rattle.convert.specs.Utf8.{two_bytes, three_bytes, four_bytes, surrogates, after_surrogates, scalar, encode, continuation, shortest, row_two, row_three, row_four, row, decode}
use Rattle.convert.proofs.Laws.Pages.{side}

-- ---- each row

pub encode_one : (c : ℕ) → c < two_bytes → encode c ≡ c ∷ []
unfolding encode pick
encode_one c h = rw (lt-ltb c two_bytes h)

pub encode_two : (c : ℕ) → two_bytes ≤ c → c < three_bytes → encode c ≡ (192 + c / 64) ∷ (128 + c % 64) ∷ []
unfolding encode pick
encode_two c l h = rw (le-ltb c two_bytes l, lt-ltb c three_bytes h)

pub encode_three : (c : ℕ) → three_bytes ≤ c → c < four_bytes → encode c ≡ (224 + c / 4096) ∷ (128 + c / 64 % 64) ∷ (128 + c % 64) ∷ []
unfolding encode pick
encode_three c l h = let k : two_bytes ≤ c = omega arith in rw (le-ltb c two_bytes k, le-ltb c three_bytes l, lt-ltb c four_bytes h)

pub encode_four : (c : ℕ) → four_bytes ≤ c → encode c ≡ (240 + c / 262144) ∷ (128 + c / 4096 % 64) ∷ (128 + c / 64 % 64) ∷ (128 + c % 64) ∷ []
unfolding encode pick
encode_four c l =
    let k : two_bytes ≤ c = omega arith in
    let m : three_bytes ≤ c = omega arith in
    rw (le-ltb c two_bytes k, le-ltb c three_bytes m, le-ltb c four_bytes l)

-- the number of the rows
pub data Row (c : ℕ) : Type 0 where
  one : c < two_bytes → Row c
  two : two_bytes ≤ c → c < three_bytes → Row c
  three : three_bytes ≤ c → c < four_bytes → Row c
  four : four_bytes ≤ c → Row c

pub row_of : (c : ℕ) → Row c
row_of c = ⊎_elim one (λ (l : two_bytes ≤ c). ⊎_elim (two l) (λ (m : three_bytes ≤ c). ⊎_elim (three m) four (side c four_bytes)) (side c three_bytes)) (side c two_bytes)

pub encode_length : (c : ℕ) → (0 < length (encode c)) × (length (encode c) ≤ 4)
encode_length c = by (row_of c)
  where
    by : Row c → (0 < length (encode c)) × (length (encode c) ≤ 4)
    by (one h) = rw (encode_one c h) (omega arith, omega arith)
    by (two l h) = rw (encode_two c l h) (omega arith, omega arith)
    by (three l h) = rw (encode_three c l h) (omega arith, omega arith)
    by (four l) = rw (encode_four c l) (omega arith, omega arith)

continuation_is : (x : ℕ) → 128 ≤ x → x < 192 → continuation x ≡ true
unfolding continuation pick
continuation_is x l h = rw (le-ltb x 128 l, lt-ltb x 192 h)

pub scalar_below : (c : ℕ) → c < surrogates → scalar c ≡ true
unfolding scalar pick
scalar_below c h = rw (lt-ltb c surrogates h)

shortest_is : (least c : ℕ) → least ≤ c → scalar c ≡ true → shortest least c ≡ c
unfolding shortest pick
shortest_is least c l s = rw (le-ltb c least l, s)

pub row_one_is : (a b d e : ℕ) → a < 128 → row a b d e ≡ a
unfolding row pick
row_one_is a b d e h = rw (lt-ltb a 128 h)

pub row_two_is : (a b d e : ℕ) → 128 ≤ a → a < 224 → row a b d e ≡ row_two a b
unfolding row pick
row_two_is a b d e l h = rw (le-ltb a 128 l, lt-ltb a 224 h)

pub row_three_is : (a b d e : ℕ) → 224 ≤ a → a < 240 → row a b d e ≡ row_three a b d
unfolding row pick
row_three_is a b d e l h = let k : 128 ≤ a = omega arith in rw (le-ltb a 128 k, le-ltb a 224 l, lt-ltb a 240 h)

pub row_four_is : (a b d e : ℕ) → 240 ≤ a → row a b d e ≡ row_four a b d e
unfolding row pick
row_four_is a b d e l = let k : 128 ≤ a = omega arith in let m : 224 ≤ a = omega arith in rw (le-ltb a 128 k, le-ltb a 224 m, le-ltb a 240 l)

pub two_is : (a b c : ℕ) → 128 ≤ b → b < 192 → (a - 192) * 64 + (b - 128) ≡ c → two_bytes ≤ c → scalar c ≡ true → row_two a b ≡ c
unfolding row_two pick
two_is a b c l h e m s = rw (continuation_is b l h, e) (shortest_is two_bytes c m s)

pub three_is : (a b d c : ℕ) → 128 ≤ b → b < 192 → 128 ≤ d → d < 192 → (a - 224) * 4096 + (b - 128) * 64 + (d - 128) ≡ c → three_bytes ≤ c → scalar c ≡ true → row_three a b d ≡ c
unfolding row_three pick
three_is a b d c lb hb ld hd e m s = rw (continuation_is b lb hb, continuation_is d ld hd, e) (shortest_is three_bytes c m s)

four_is : (a b d e c : ℕ) → 128 ≤ b → b < 192 → 128 ≤ d → d < 192 → 128 ≤ e → e < 192
    → (a - 240) * 262144 + (b - 128) * 4096 + (d - 128) * 64 + (e - 128) ≡ c → four_bytes ≤ c → scalar c ≡ true → row_four a b d e ≡ c
unfolding row_four pick
four_is a b d e c lb hb ld hd le he q m s = rw (continuation_is b lb hb, continuation_is d ld hd, continuation_is e le he, q) (shortest_is four_bytes c m s)

-- ---- what is encoded is decoded

pub scalar_most : (c : ℕ) → scalar c ≡ true → c < no_code_point
unfolding scalar pick
scalar_most c s = ⊎_elim (λ (h : c < surrogates). omega arith) high (side c surrogates)
  where
    high : surrogates ≤ c → c < no_code_point
    high h = cases (ltb c after_surrogates) (rw (le-ltb c surrogates h) at s)
      where
        cases : (t : Bool) → pick t false (ltb c no_code_point) ≡ true → c < no_code_point
        cases true q = let z : ◌≡◌ {A = ℕ} 0 1 = cc in absurd (omega arith)
        cases false q = ltb-true c no_code_point q

-- the digits of a code point to base 64 make it up
sum_four : (c x y z r q p : ℕ) → c ≡ 64 * x + r → x ≡ 64 * y + q → y ≡ 64 * z + p → (240 + z - 240) * 262144 + (128 + p - 128) * 4096 + (128 + q - 128) * 64 + (128 + r - 128) ≡ c
sum_four c x y z r q p a b d = omega arith

four_digits : (c : ℕ) → (240 + c / 262144 - 240) * 262144 + (128 + c / 4096 % 64 - 128) * 4096 + (128 + c / 64 % 64 - 128) * 64 + (128 + c % 64 - 128) ≡ c
four_digits c = sum_four c (c / 64) (c / 4096) (c / 262144) (c % 64) (c / 64 % 64) (c / 4096 % 64) (omega arith) (omega arith) (omega arith)

pub decode_encode : (c : ℕ) (r : List ℕ) → scalar c ≡ true → decode (encode c ++ r) ≡ c
unfolding decode
decode_encode c r s = by (row_of c)
  where
    by : Row c → decode (encode c ++ r) ≡ c
    by (one h) = rw (encode_one c h) (row_one_is c _ _ _ h)
    by (two l h) =
        rw (encode_two c l h)
        (row_two_is (192 + c / 64) (128 + c % 64) _ _ (omega arith) (omega arith) ∙ two_is (192 + c / 64) (128 + c % 64) c (omega arith) (omega arith) (omega arith) l s)
    by (three l h) =
        rw (encode_three c l h)
        (row_three_is (224 + c / 4096) (128 + c / 64 % 64) (128 + c % 64) _ (omega arith) (omega arith)
        ∙ three_is (224 + c / 4096) (128 + c / 64 % 64) (128 + c % 64) c (omega arith) (omega arith) (omega arith) (omega arith) (omega arith) l s)
    by (four l) =
        rw (encode_four c l)
        (row_four_is (240 + c / 262144) (128 + c / 4096 % 64) (128 + c / 64 % 64) (128 + c % 64) (omega arith)
        ∙ four_is (240 + c / 262144) (128 + c / 4096 % 64) (128 + c / 64 % 64) (128 + c % 64) c (omega arith) (omega arith) (omega arith) (omega arith) (omega arith) (omega arith) (four_digits c) l s)

-- ---- what is decoded was encoded

-- a choice that comes to a code point, the other being none
chosen : (t : Bool) (x c : ℕ) → pick t x no_code_point ≡ c → c < no_code_point → (t ≡ true) × (x ≡ c)
unfolding pick
chosen true x c q h = (refl, q)
chosen false x c q h = absurd (omega arith)

not_chosen : (t : Bool) (x c : ℕ) → pick t no_code_point x ≡ c → c < no_code_point → (t ≡ false) × (x ≡ c)
unfolding pick
not_chosen false x c q h = (refl, q)
not_chosen true x c q h = absurd (omega arith)

pub continues : (x : ℕ) → continuation x ≡ true → (128 ≤ x) × (x < 192)
unfolding continuation pick
continues x q = cases (ltb x 128) refl q
  where
    cases : (t : Bool) → ltb x 128 ≡ t → pick t false (ltb x 192) ≡ true → (128 ≤ x) × (x < 192)
    cases true e q = let z : ◌≡◌ {A = ℕ} 0 1 = cc in absurd (omega arith)
    cases false e q = (ltb-false x 128 e, ltb-true x 192 q)

-- the number n of a row is that of a scalar value in its shortest form
pub record Shortest (least n c : ℕ) : Type 0 where
  pub above : least ≤ c
  pub is : n ≡ c
  pub value : scalar c ≡ true

shortest_back : (least n c : ℕ) → shortest least n ≡ c → c < no_code_point → Shortest least n c
unfolding shortest
shortest_back least n c q h =
    let p = not_chosen (ltb n least) (pick (scalar n) n no_code_point) c q h in
    let s = chosen (scalar n) n c p.1 h in
    record { above = omega (arith, ltb-false n least p.0, s.1); is = s.1; value = rw s.1 at s.0 }

-- a row, from its bytes
pub data Decoded (a b d e c : ℕ) : Type 0 where
  from_one : a < 128 → c ≡ a → Decoded a b d e c
  from_two : a < 224 → 128 ≤ b → b < 192 → Shortest two_bytes ((a - 192) * 64 + (b - 128)) c → Decoded a b d e c
  from_three : 224 ≤ a → a < 240 → 128 ≤ b → b < 192 → 128 ≤ d → d < 192 → Shortest three_bytes ((a - 224) * 4096 + (b - 128) * 64 + (d - 128)) c → Decoded a b d e c
  from_four : 240 ≤ a → 128 ≤ b → b < 192 → 128 ≤ d → d < 192 → 128 ≤ e → e < 192
      → Shortest four_bytes ((a - 240) * 262144 + (b - 128) * 4096 + (d - 128) * 64 + (e - 128)) c → Decoded a b d e c

module _ (a b d e c : ℕ) (h : c < no_code_point) where
  by_two : a < 224 → row_two a b ≡ c → Decoded a b d e c
  unfolding row_two
  by_two l q =
      let p = chosen (continuation b) (shortest two_bytes ((a - 192) * 64 + (b - 128))) c q h in
      let tb = continues b p.0 in
      from_two l tb.0 tb.1 (shortest_back two_bytes ((a - 192) * 64 + (b - 128)) c p.1 h)

  by_three : 224 ≤ a → a < 240 → row_three a b d ≡ c → Decoded a b d e c
  unfolding row_three
  by_three l m q =
      let n = (a - 224) * 4096 + (b - 128) * 64 + (d - 128) in
      let p = chosen (continuation b) (pick (continuation d) (shortest three_bytes n) no_code_point) c q h in
      let r = chosen (continuation d) (shortest three_bytes n) c p.1 h in
      let tb = continues b p.0 in
      let td = continues d r.0 in
      from_three l m tb.0 tb.1 td.0 td.1 (shortest_back three_bytes n c r.1 h)

  by_four : 240 ≤ a → row_four a b d e ≡ c → Decoded a b d e c
  unfolding row_four
  by_four l q =
      let n = (a - 240) * 262144 + (b - 128) * 4096 + (d - 128) * 64 + (e - 128) in
      let p = chosen (continuation b) (pick (continuation d) (pick (continuation e) (shortest four_bytes n) no_code_point) no_code_point) c q h in
      let r = chosen (continuation d) (pick (continuation e) (shortest four_bytes n) no_code_point) c p.1 h in
      let s = chosen (continuation e) (shortest four_bytes n) c r.1 h in
      let tb = continues b p.0 in
      let td = continues d r.0 in
      let te = continues e s.0 in
      from_four l tb.0 tb.1 td.0 td.1 te.0 te.1 (shortest_back four_bytes n c s.1 h)

  pub decoded_by : row a b d e ≡ c → Decoded a b d e c
  decoded_by q = ⊎_elim low high (side a 128)
    where
      low : a < 128 → Decoded a b d e c
      low l = from_one l (sym q ∙ row_one_is a b d e l)

      high : 128 ≤ a → Decoded a b d e c
      high l = ⊎_elim (λ (m : a < 224). by_two m (sym (row_two_is a b d e l m) ∙ q)) higher (side a 224)
        where
          higher : 224 ≤ a → Decoded a b d e c
          higher m =
              ⊎_elim (λ (n : a < 240). by_three m n (sym (row_three_is a b d e m n) ∙ q)) (λ (n : 240 ≤ a). by_four n (sym (row_four_is a b d e n) ∙ q)) (side a 240)

-- u begins with the character c, in its shortest form
pub record Begins (u : List ℕ) (c : ℕ) : Type 0 where
  pub value : scalar c ≡ true
  pub front : u ≡ encode c ++ drop (length (encode c)) u
  pub inside : length (encode c) ≤ length u

pub encode_decode : (u : List ℕ) (c : ℕ) → 0 < length u → decode u ≡ c → c < no_code_point → Begins u c
unfolding decode
encode_decode u c l q h = by u l (decoded_by (get_or u 0 0) (get_or u 1 0) (get_or u 2 0) (get_or u 3 0) c h q)
  where
    by : (u : List ℕ) → 0 < length u → Decoded (get_or u 0 0) (get_or u 1 0) (get_or u 2 0) (get_or u 3 0) c → Begins u c
    by [] l r = absurd (omega arith)
    by (a ∷ u) l (from_one ha e) =
        let m : c < two_bytes = omega arith in
        let k = encode_one c m in
        record { value = scalar_below c (omega arith); front = rw (k, e); inside = rw k (omega arith) }
    by (a ∷ []) l (from_two _ lb _ _) = absurd (omega arith)
    by (a ∷ b ∷ u) l (from_two ha lb hb s) =
        let m : c < three_bytes = omega (arith, s.is, s.above) in
        let k = encode_two c s.above m in
        let ea : 192 + c / 64 ≡ a = omega (arith, s.is, s.above) in
        let eb : 128 + c % 64 ≡ b = omega (arith, s.is, s.above) in
        record { value = s.value; front = rw (k, ea, eb); inside = rw k (omega arith) }
    by (a ∷ []) l (from_three _ _ lb _ _ _ _) = absurd (omega arith)
    by (a ∷ b ∷ []) l (from_three _ _ _ _ ld _ _) = absurd (omega arith)
    by (a ∷ b ∷ d ∷ u) l (from_three la ha lb hb ld hd s) =
        let m : c < four_bytes = omega (arith, s.is, s.above) in
        let k = encode_three c s.above m in
        let ea : 224 + c / 4096 ≡ a = omega (arith, s.is) in
        let eb : 128 + c / 64 % 64 ≡ b = omega (arith, s.is) in
        let ed : 128 + c % 64 ≡ d = omega (arith, s.is) in
        record { value = s.value; front = rw (k, ea, eb, ed); inside = rw k (omega arith) }
    by (a ∷ []) l (from_four _ lb _ _ _ _ _ _) = absurd (omega arith)
    by (a ∷ b ∷ []) l (from_four _ _ _ ld _ _ _ _) = absurd (omega arith)
    by (a ∷ b ∷ d ∷ []) l (from_four _ _ _ _ _ le _ _) = absurd (omega arith)
    by (a ∷ b ∷ d ∷ e ∷ u) l (from_four la lb hb ld hd le he s) =
        let k = encode_four c s.above in
        let ea : 240 + c / 262144 ≡ a = omega (arith, s.is) in
        let eb : 128 + c / 4096 % 64 ≡ b = omega (arith, s.is) in
        let ed : 128 + c / 64 % 64 ≡ d = omega (arith, s.is) in
        let ee : 128 + c % 64 ≡ e = omega (arith, s.is) in
        record { value = s.value; front = rw (k, ea, eb, ed, ee); inside = rw k (omega arith) }
