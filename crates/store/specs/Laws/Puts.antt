-- The laws by which a writer is proved from what its callees ensure.
use Rattle.std.proofs.Math.Path.{◌≡◌, refl, ap}
use Rattle.std.proofs.Common.{sym, ◌∙◌, arith, take, replicate, set, get_or, drop-cons, drop_of_length-le, add-one, length-append, length-drop, length-take-le, take-append-drop}
use Rattle.std.specs.Prelude.{Bool, List, [], ◌∷◌, ◌++◌, ℕ, suc, ◌+◌, ◌-◌, ◌^◌, ◌≤◌, ◌<◌, eqb}
use Rattle.std.proofs.Math.Bool.{true, false}
use Rattle.std.proofs.Math.Nat.{zero-add}
use Rattle.std.proofs.Math.ListN.{length, drop}
use Rattle.std.proofs.lemmas.List.{replicate_more, set_split}
use Rattle.std.proofs.Math.Dec.{leb}
use borrow.Author.Tests.{eq-eqb, eqb-true, le-leb, lt-leb, leb-true}
use Rattle.layout.specs.Step.{Step}
use Rattle.std.specs.Prelude.{Ok, Err}
use Rattle.sizes.specs.Basics.{pick}
use Rattle.grammar.specs.Layout.{Order, big, Bytes, Content, Test, any_number, the_number, a_bool, passes, exact, Layout, empty, number, string, ◌▸◌, times, region, digits, spell_fill, All, all_none, all_more, undigits}
use Rattle.grammar.specs.Numbers.{too_short}
use Rattle.layout.specs.Reads.{verdict}
use Rattle.grammar.specs.Laws.Layout.{digits_length}
use Rattle.grammar.specs.Laws.Layout.Spelt.{digits_of, letters_lt}
use Rattle.store.specs.Values.{bit}
use Rattle.store.specs.Fields.{Text, Fields, text_of, resolve_in, bytes_in, content_in}
use Rattle.store.specs.Put.{State, stored, fitted, put_field, text_verdict, opened, closed, put_all, put_in, put, put_words}
use Rattle.store.specs.Fit.{FitText}
use Rattle.store.specs.Puts.{StoresTo, PutsTo, PutsPlainTo, ClosesTo, PutsWordsTo, AtFront}
use Rattle.store.specs.Laws.Stored.{stored_none, stored_length, stored_more}
use Rattle.store.specs.Laws.Lands.{field_long, put_long}

-- ---- a field, case by case

module _ (xs b : List ℕ) (c : ℕ) {st : Step} where
  pub stores_kept : {n p : ℕ} → st ≡ Err (n, p) → StoresTo c xs b st b st
  unfolding put_field
  stores_kept i = record { is = rw i }

  pub stores_refused : {at : ℕ} → eqb c 0 ≡ false → st ≡ Ok at → StoresTo c xs b st b (Err (c, at))
  unfolding put_field pick
  stores_refused z i = record { is = rw (i, z) }

  pub stores_short : {at : ℕ} → eqb c 0 ≡ true → st ≡ Ok at → length b < at + length xs → StoresTo c xs b st b (Err (too_short, at))
  unfolding put_field fitted pick
  stores_short {at} z i l = record { is = rw (i, z, lt-leb (at + length xs) (length b) l) }

  pub stores_done : {at : ℕ} {b' : List ℕ} → eqb c 0 ≡ true → st ≡ Ok at → at + length xs ≤ length b → b' ≡ stored b at xs
      → StoresTo c xs b st b' (Ok (at + length xs))
  unfolding put_field fitted pick
  stores_done {at} z i l e = record { is = rw (i, z, le-leb (at + length xs) (length b) l, e) }

-- two fields that both fit are one
pub stores_both : {xs ys b b₁ b₂ : List ℕ} {st q r : Step} (at : ℕ) → st ≡ Ok at → at + length xs + length ys ≤ length b
    → StoresTo 0 xs b st b₁ q → StoresTo 0 ys b₁ q b₂ r → StoresTo 0 (xs ++ ys) b st b₂ r
unfolding put_field fitted pick
stores_both {xs} {ys} {b} at i l x y =
    let first : at + length xs ≤ length b = omega arith in
    let second : at + length xs + length ys ≤ length (stored b at xs) = rw (stored_length b at xs first) l in
    let all : at + length (xs ++ ys) ≤ length b = rw length-append (omega arith) in
    record {
      is = y.is
          ∙ ap (λ (s : State). put_field 0 ys s.0 s.1) x.is
          ∙ rw (i, le-leb (at + length xs) (length b) first, le-leb (at + length xs + length ys) (length (stored b at xs)) second, le-leb (at + length (xs ++ ys)) (length b) all, stored_more b at xs ys l)
          (ap (λ (n : ℕ). (stored b at (xs ++ ys), Ok n)) (rw length-append (omega arith)));
    }

-- a field that is refused is refused whatever it holds
pub stores_other : {c : ℕ} {xs ys b : List ℕ} {st : Step} {b' : List ℕ} {r : Step} → eqb c 0 ≡ false → StoresTo c xs b st b' r → StoresTo c ys b st b' r
unfolding put_field pick
stores_other {c} {xs} {ys} {b} {st} z x = record { is = x.is ∙ go st }
  where
    go : (st : Step) → put_field c xs b st ≡ put_field c ys b st
    go (Ok at) = rw z
    go (Err (n, p)) = refl

-- ---- one after the other

infixl 20 ◌⟫◌
pub ◌⟫◌ : {g h : Layout} {s : List ℕ} {f : Fields g} {e : Fields h} {b b₁ b₂ : List ℕ} {st q r : Step}
    → PutsTo g s f b st b₁ q → PutsTo h s e b₁ q b₂ r → PutsTo (g ▸ h) s (f, e) b st b₂ r
unfolding put
◌⟫◌ {h = h} {s = s} {e = e} x y = record { is = y.is ∙ ap (put h s e) x.is; fit = (x.fit, y.fit) }

pub empty_puts : {s : List ℕ} {b : List ℕ} {st : Step} → PutsTo empty s tt b st b st
unfolding put
empty_puts = record { is = refl; fit = tt }

pub none_puts : {a : Layout} {s : List ℕ} {b : List ℕ} {st : Step} → PutsTo (times 0 a) s [] b st b st
unfolding put put_all
none_puts = record { is = refl; fit = (refl, all_none) }

pub more_puts : {a : Layout} {s : List ℕ} {n : ℕ} {f : Fields a} {fs : List (Fields a)} {b b₁ b₂ : List ℕ} {st q r : Step}
    → PutsTo a s f b st b₁ q → PutsTo (times n a) s fs b₁ q b₂ r → PutsTo (times (suc n) a) s (f ∷ fs) b st b₂ r
unfolding put put_all
more_puts {a} {s} {fs = fs} x y = record {
  is = y.is ∙ ap (put_all (put a s) fs) x.is;
  fit = (ap suc y.fit.0, all_more x.fit y.fit.1);
}

-- some, and some more
all_append : {A : Type 0} (f : A → State → State) (xs ys : List A) (x : State) → put_all f (xs ++ ys) x ≡ put_all f ys (put_all f xs x)
unfolding put_all
all_append f [] ys x = refl
all_append f (y ∷ xs) ys x = all_append f xs ys (f y x)

fit_append : {A : Type 0} {P : A → Type 0} {xs ys : List A} → All P xs → All P ys → All P (xs ++ ys)
fit_append all_none h = h
fit_append (all_more x xs) h = all_more x (fit_append xs h)

infixr 20 ◌and◌
pub ◌and◌ : {a : Layout} {m n : ℕ} {fs gs : List (Fields a)} {b b₁ b₂ : List ℕ} {st q r : Step}
    → PutsPlainTo (times m a) fs b st b₁ q → PutsPlainTo (times n a) gs b₁ q b₂ r → PutsPlainTo (times (m + n) a) (fs ++ gs) b st b₂ r
unfolding put
◌and◌ {a} {m} {n} {fs} {gs} {b} {st = st} x y = record {
  any = λ s. record {
    is = (y.any s).is ∙ ap (put_all (put a s) gs) (x.any s).is ∙ sym (all_append (put a s) fs gs (b, st));
    fit = (length-append fs gs ∙ rw ((x.any s).fit.0, (y.any s).fit.0), fit_append (x.any s).fit.1 (y.any s).fit.1);
  };
}

-- ---- numbers

pub switch_puts : {o : Order} {w v c : ℕ} {test : Test} (k : ℕ → Layout) {s : List ℕ} {f : Fields (k v)} {b b₁ b₂ : List ℕ} {st q r : Step}
    → v < 256 ^ w → c ≡ verdict test v → StoresTo c (digits o w v) b st b₁ q → PutsTo (k v) s f b₁ q b₂ r → PutsTo (number o w test k) s (v, f) b st b₂ r
unfolding put
switch_puts {v = v} k {s} {f} l e x y = record { is = y.is ∙ rw (← e) (ap (put (k v) s f) x.is); fit = (l, y.fit) }

pub number_puts : {o : Order} {w v c : ℕ} {test : Test} {s b : List ℕ} {st : Step} {b' : List ℕ} {r : Step} → v < 256 ^ w → c ≡ verdict test v
    → StoresTo c (digits o w v) b st b' r → PutsTo (number o w test (λ _. empty)) s (v, tt) b st b' r
number_puts l e x = switch_puts (λ _. empty) l e x empty_puts

-- ---- strings

pub text_puts : {o : Order} {w v : ℕ} {c : Content} {s : List ℕ} {t : Text} {xs b : List ℕ} {st : Step} {b' : List ℕ} {r : Step} → FitText t
    → v ≡ text_verdict w c s t → (v ≡ 0 → xs ≡ text_of s t) → StoresTo v (digits o w (length xs) ++ xs) b st b' r → PutsTo (string o w c) s t b st b' r
unfolding put
text_puts {o} {w} {v} {c} {s} {t} {xs} {b} {st} {b'} {r} l e h x = record { is = go (eqb v 0) refl; fit = l }
  where
    go : (u : Bool) → eqb v 0 ≡ u → ◌≡◌ {A = State} (b', r) (put_field (text_verdict w c s t) (digits o w (length (text_of s t)) ++ text_of s t) b st)
    go true z = rw (← e) (rw (h (eqb-true v 0 z)) at x.is)
    go false z = rw (← e) (stores_other {ys = digits o w (length (text_of s t)) ++ text_of s t} z x).is

-- ---- regions

-- the buffer is as it was before the content
opened_same : (b : List ℕ) (st : Step) → opened b st ≡ (b, (opened b st).1)
unfolding opened pick
opened_same b (Err (n, p)) = refl
opened_same b (Ok at) = go (leb (at + 4) (length b))
  where
    go : (u : Bool) → ◌≡◌ {A = State} (pick u (b, Ok (at + 4)) (b, Err (too_short, at))) (b, (pick {X = State} u (b, Ok (at + 4)) (b, Err (too_short, at))).1)
    go true = refl
    go false = refl

pub region_puts : {o : Order} {a : Layout} {s : List ℕ} {f : Fields a} {b b₁ b₂ : List ℕ} {st q r₁ r : Step}
    → q ≡ (opened b st).1 → PutsTo a s f b q b₁ r₁ → ClosesTo o st b₁ r₁ b₂ r → length (bytes_in a s f) < 256 ^ 4
    → PutsTo (region o exact a) s f b st b₂ r
unfolding put put_in content_in bytes_in spell_fill resolve_in
region_puts {o} {a} {s} {f} {b} {b₁} {b₂} {st} {q} {r₁} {r} i x e l =
    let y : ◌≡◌ {A = State} (b, q) (opened b st) = rw i (sym (opened_same b st)) in
    record {
      is = e.is ∙ ap (λ (y : State). closed o st y.0 y.1) (x.is ∙ ap (put a s f) y);
      fit = (l, x.fit);
    }

-- ---- fields without names

pub plain : {g : Layout} {s : List ℕ} {f : Fields g} {b : List ℕ} {st : Step} {b' : List ℕ} {r : Step} → PutsPlainTo g f b st b' r → PutsTo g s f b st b' r
plain {s = s} x = x.any s

pub plain_number : {o : Order} {w v c : ℕ} {test : Test} {b : List ℕ} {st : Step} {b' : List ℕ} {r : Step} → v < 256 ^ w → c ≡ verdict test v
    → StoresTo c (digits o w v) b st b' r → PutsPlainTo (number o w test (λ _. empty)) (v, tt) b st b' r
plain_number l e x = record { any = λ s. number_puts l e x }

pub plain_any : {o : Order} {w v : ℕ} {b : List ℕ} {st : Step} {b' : List ℕ} {r : Step} → v < 256 ^ w → StoresTo 0 (digits o w v) b st b' r
    → PutsPlainTo (number o w any_number (λ _. empty)) (v, tt) b st b' r
unfolding verdict passes pick
plain_any l x = plain_number {c = 0} l refl x

pub plain_fixed : {o : Order} {w v : ℕ} {b : List ℕ} {st : Step} {b' : List ℕ} {r : Step} → v < 256 ^ w → StoresTo 0 (digits o w v) b st b' r
    → PutsPlainTo (number o w (the_number v) (λ _. empty)) (v, tt) b st b' r
unfolding verdict passes pick
plain_fixed {v = v} l x = plain_number {c = 0} l (rw (eq-eqb v v refl)) x

-- letters, as one number
pub plain_letters : {xs b : List ℕ} {st : Step} {b' : List ℕ} {r : Step} → Bytes xs → StoresTo 0 xs b st b' r
    → PutsPlainTo (number big (length xs) (the_number (undigits big xs)) (λ _. empty)) (undigits big xs, tt) b st b' r
plain_letters {xs} h x = plain_fixed (letters_lt big xs h) (rw (digits_of big xs h) x)

-- a bool
pub plain_bool : {o : Order} {w : ℕ} {b : List ℕ} {st : Step} {b' : List ℕ} {r : Step} (on : Bool) → 1 < 256 ^ w → StoresTo 0 (digits o w (bit on)) b st b' r
    → PutsPlainTo (number o w a_bool (λ _. empty)) (bit on, tt) b st b' r
unfolding verdict passes pick
plain_bool true l x = plain_number {c = 0} l refl x
plain_bool false l x = plain_number {c = 0} (omega arith) refl x

infixl 20 ◌⊳◌
pub ◌⊳◌ : {g h : Layout} {f : Fields g} {e : Fields h} {b b₁ b₂ : List ℕ} {st q r : Step}
    → PutsPlainTo g f b st b₁ q → PutsPlainTo h e b₁ q b₂ r → PutsPlainTo (g ▸ h) (f, e) b st b₂ r
x ⊳ y = record { any = λ s. x.any s ⟫ y.any s }

pub plain_none : {a : Layout} {b : List ℕ} {st : Step} → PutsPlainTo (times 0 a) [] b st b st
plain_none = record { any = λ s. none_puts }

pub plain_more : {a : Layout} {n : ℕ} {f : Fields a} {fs : List (Fields a)} {b b₁ b₂ : List ℕ} {st q r : Step}
    → PutsPlainTo a f b st b₁ q → PutsPlainTo (times n a) fs b₁ q b₂ r → PutsPlainTo (times (suc n) a) (f ∷ fs) b st b₂ r
plain_more x y = record { any = λ s. more_puts (x.any s) (y.any s) }

-- the same value so many times, and once more
pub plain_repeated : {a : Layout} {n : ℕ} {f : Fields a} {b b₁ b₂ : List ℕ} {st q r : Step}
    → PutsPlainTo (times n a) (replicate n f) b st b₁ q → PutsPlainTo a f b₁ q b₂ r → PutsPlainTo (times (n + 1) a) (replicate (n + 1) f) b st b₂ r
plain_repeated {n = n} {f = f} x y = rw (← (replicate_more n f)) (x and plain_more y plain_none)

pub plain_switch : {o : Order} {w v c : ℕ} {test : Test} (k : ℕ → Layout) {f : Fields (k v)} {b b₁ b₂ : List ℕ} {st q r : Step}
    → v < 256 ^ w → c ≡ verdict test v → StoresTo c (digits o w v) b st b₁ q → PutsPlainTo (k v) f b₁ q b₂ r → PutsPlainTo (number o w test k) (v, f) b st b₂ r
plain_switch k l e x y = record { any = λ s. switch_puts k l e x (y.any s) }

-- ---- the buffer stays as long as it is

pub long_field : {c : ℕ} {xs b : List ℕ} {st : Step} {b' : List ℕ} {r : Step} → StoresTo c xs b st b' r → length b' ≡ length b
long_field {c} {xs} {b} {st} x = ap (λ (y : State). length y.0) x.is ∙ field_long c xs b st

pub long : {g : Layout} {s : List ℕ} {f : Fields g} {b : List ℕ} {st : Step} {b' : List ℕ} {r : Step} → PutsTo g s f b st b' r → length b' ≡ length b
long {g} {s} {f} {b} {st} x = ap (λ (y : State). length y.0) x.is ∙ put_long g s f (b, st)

pub long_plain : {g : Layout} {f : Fields g} {b : List ℕ} {st : Step} {b' : List ℕ} {r : Step} → PutsPlainTo g f b st b' r → length b' ≡ length b
long_plain x = long (x.any [])

-- ---- words

words_append : (xs ys : List ℕ) (x : State) → put_words (xs ++ ys) x ≡ put_words ys (put_words xs x)
unfolding put_words
words_append [] ys x = refl
words_append (w ∷ xs) ys x = words_append xs ys (put_field 0 (w ∷ []) x.0 x.1)

infixl 20 ◌⟩◌
pub ◌⟩◌ : {xs ys b b₁ b₂ : List ℕ} {st q r : Step} → PutsWordsTo xs b st b₁ q → PutsWordsTo ys b₁ q b₂ r → PutsWordsTo (xs ++ ys) b st b₂ r
◌⟩◌ {xs} {ys} {b} {st = st} x y = record { is = y.is ∙ ap (put_words ys) x.is ∙ sym (words_append xs ys (b, st)) }

words_long : (ws : List ℕ) (x : State) → length (put_words ws x).0 ≡ length x.0
unfolding put_words
words_long [] x = refl
words_long (w ∷ ws) x = words_long ws (put_field 0 (w ∷ []) x.0 x.1) ∙ field_long 0 (w ∷ []) x.0 x.1

pub long_words : {ws b : List ℕ} {st : Step} {b' : List ℕ} {r : Step} → PutsWordsTo ws b st b' r → length b' ≡ length b
long_words {ws} {b} {st} x = ap (λ (y : State). length y.0) x.is ∙ words_long ws (b, st)

pub words_kept : (ws b : List ℕ) (n p : ℕ) → put_words ws (b, Err (n, p)) ≡ (b, Err (n, p))
unfolding put_words put_field
words_kept [] b n p = refl
words_kept (w ∷ ws) b n p = words_kept ws b n p

-- where they all fit
pub words_land : (ws b : List ℕ) (at : ℕ) → at + length ws ≤ length b → put_words ws (b, Ok at) ≡ (stored b at ws, Ok (at + length ws))
unfolding put_words put_field fitted pick
words_land [] b at h = rw stored_none (ap (λ (n : ℕ). (b, Ok n)) (omega arith))
words_land (w ∷ ws) b at h =
    let one : at + 1 ≤ length b = omega arith in
    let b₁ : List ℕ = stored b at (w ∷ []) in
    let rest : at + 1 + length ws ≤ length b₁ = rw (stored_length b at (w ∷ []) one) (omega arith) in
    rw (le-leb (at + 1) (length b) one) (words_land ws b₁ (at + 1) rest ∙ rw (stored_more b at (w ∷ []) ws (omega arith)) (ap (λ (n : ℕ). (stored b at (w ∷ ws), Ok n)) (omega arith)))

word_stored : (w : ℕ) (b : List ℕ) (at : ℕ) → at < length b → put_field 0 (w ∷ []) b (Ok at) ≡ (set b at w, Ok (at + 1))
unfolding put_field fitted stored pick
word_stored w b at h = rw (le-leb (at + 1) (length b) (omega arith), set_split b at w h, add-one at)

word_refused : (w : ℕ) (b : List ℕ) (at : ℕ) → length b ≤ at → put_field 0 (w ∷ []) b (Ok at) ≡ (b, Err (too_short, at))
unfolding put_field fitted pick
word_refused w b at h = rw (lt-leb (at + 1) (length b) (omega arith))

-- one by one: the word at i is stored; or does not fit; or there is none
module _ (ws b : List ℕ) (i at : ℕ) where
  pub words_next : i < length ws → at < length b → put_words (drop i ws) (b, Ok at) ≡ put_words (drop (i + 1) ws) (set b at (get_or ws i 0), Ok (at + 1))
  unfolding put_words
  words_next h l = rw (drop-cons ws i 0 h, add-one i) (ap (put_words (drop (suc i) ws)) (word_stored (get_or ws i 0) b at l))

  pub words_short : i < length ws → length b ≤ at → put_words (drop i ws) (b, Ok at) ≡ (b, Err (too_short, at))
  unfolding put_words
  words_short h l =
      rw (drop-cons ws i 0 h) (ap (put_words (drop (suc i) ws)) (word_refused (get_or ws i 0) b at l) ∙ words_kept (drop (suc i) ws) b too_short at)

  pub words_end : length ws ≤ i → put_words (drop i ws) (b, Ok at) ≡ (b, Ok at)
  unfolding put_words
  words_end h = rw (drop_of_length-le ws {i = i} h)

-- where none fits
pub words_past : (ws b : List ℕ) (at : ℕ) → 0 < length ws → length b ≤ at → put_words ws (b, Ok at) ≡ (b, Err (too_short, at))
words_past ws b at = words_short ws b 0 at

-- those that fit, and then a refusal
pub words_cut : (ws b : List ℕ) (at n : ℕ) → n < length ws → at + n ≤ length b → length b ≤ at + n
    → put_words ws (b, Ok at) ≡ (stored b at (take n ws), Err (too_short, at + n))
words_cut ws b at n i h k =
    let l : length (take n ws) ≡ n = length-take-le n ws (omega arith) in
    let first : put_words (take n ws) (b, Ok at) ≡ (stored b at (take n ws), Ok (at + n)) = rw l at (words_land (take n ws) b at (rw l h)) in
    let rest : 0 < length (drop n ws) = rw length-drop (omega arith) in
    let long : length (stored b at (take n ws)) ≡ length b = stored_length b at (take n ws) (rw l h) in
    ap (λ (xs : List ℕ). put_words xs (b, Ok at)) (sym (take-append-drop n ws))
    ∙ words_append (take n ws) (drop n ws) (b, Ok at)
    ∙ ap (put_words (drop n ws)) first
    ∙ words_past (drop n ws) (stored b at (take n ws)) (at + n) rest (rw long k)

-- no word at all
pub words_none : (ws b : List ℕ) (at : ℕ) → length ws ≤ 0 → put_words ws (b, Ok at) ≡ (b, Ok at)
words_none ws b at = words_end ws b 0 at

-- at the front of an area
module _ (n : ℕ) (xs b : List ℕ) where
  pub with_room : {b' : List ℕ} {r : Step} → length xs ≡ n → leb n (length b) ≡ true → PutsWordsTo xs b (Ok 0) b' r → AtFront n xs b n b'
  unfolding pick stored
  with_room e t x =
      let p : 0 + length xs ≡ n = zero-add (length xs) ∙ e in
      let l = words_land xs b 0 (rw p (leb-true n (length b) t)) in
      rw t (refl, ap (λ (y : State). y.0) (x.is ∙ l) ∙ ap (λ (m : ℕ). xs ++ drop m b) p)

  pub without_room : leb n (length b) ≡ false → AtFront n xs b 0 b
  unfolding pick
  without_room t = rw t (refl, refl)

-- ---- the count of a region, case by case

-- stored or refused as a field
count_field : (o : Order) (b : List ℕ) {first : Step} (at n : ℕ) → first ≡ Ok at
    → put_field 0 (digits o 4 n) b first ≡ pick (leb (at + 4) (length b)) (stored b at (digits o 4 n), Ok (at + 4)) (b, Err (too_short, at))
unfolding put_field fitted pick
count_field o b at n i =
    rw i (ap (λ (m : ℕ). pick {X = State} (leb (at + m) (length b)) (stored b at (digits o 4 n), Ok (at + m)) (b, Err (too_short, at))) (digits_length o 4 n))

module _ (o : Order) (b : List ℕ) {first last : Step} where
  pub closes_nothing : {n p : ℕ} → first ≡ Err (n, p) → ClosesTo o first b last b last
  unfolding closed
  closes_nothing i = record { is = rw i }

  pub closes_kept : {at n p : ℕ} → first ≡ Ok at → last ≡ Err (n, p) → ClosesTo o first b last b last
  unfolding closed
  closes_kept i j = record { is = rw (i, j) }

  pub closes_short : (at p n : ℕ) {b' : List ℕ} {r q : ℕ} → first ≡ Ok at → last ≡ Ok p
      → StoresTo 0 (digits o 4 n) b first b' (Err (r, q)) → ClosesTo o first b last b' (Err (r, q))
  unfolding closed pick
  closes_short at p n {b'} {r} {q} i j x = go (leb (at + 4) (length b)) refl (x.is ∙ count_field o b at n i)
    where
      go : (u : Bool) → leb (at + 4) (length b) ≡ u
          → ◌≡◌ {A = State} (b', Err (r, q)) (pick u (stored b at (digits o 4 n), Ok (at + 4)) (b, Err (too_short, at))) → ClosesTo o first b last b' (Err (r, q))
      go true e y =
          let y' : ◌≡◌ {A = Step} (Err (r, q)) (Ok (at + 4)) = ap (λ (z : State). z.1) y in
          absurd (let z : ◌≡◌ {A = ℕ} 0 1 = cc in omega arith)
      go false e y = record { is = y ∙ rw (i, j, e) }

  pub closes_done : (at p n : ℕ) {b' : List ℕ} {q : ℕ} → first ≡ Ok at → last ≡ Ok p → n ≡ p - (at + 4)
      → StoresTo 0 (digits o 4 n) b first b' (Ok q) → ClosesTo o first b last b' (Ok p)
  unfolding closed pick
  closes_done at p n {b'} {q} i j k x = go (leb (at + 4) (length b)) refl (x.is ∙ count_field o b at n i)
    where
      go : (u : Bool) → leb (at + 4) (length b) ≡ u
          → ◌≡◌ {A = State} (b', Ok q) (pick u (stored b at (digits o 4 n), Ok (at + 4)) (b, Err (too_short, at))) → ClosesTo o first b last b' (Ok p)
      go true e y =
          let same : b' ≡ stored b at (digits o 4 n) = ap (λ (z : State). z.0) y in
          record { is = rw (i, j, e, ← k, same) }
      go false e y =
          let y' : ◌≡◌ {A = Step} (Ok q) (Err (too_short, at)) = ap (λ (z : State). z.1) y in
          absurd (let z : ◌≡◌ {A = ℕ} 0 1 = cc in omega arith)
