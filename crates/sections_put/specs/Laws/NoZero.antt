-- Strings without zero bytes: their refusals, and the letters of a color.
use Rattle.std.specs.Prelude.{◌≡◌, Bool, not, ◌&&◌, List, [], ℕ, ◌+◌, ◌^◌, length, eqb, leb, ltb}
use Rattle.std.proofs.Math.Path.{refl}
use Rattle.std.proofs.Math.Bool.{true, false}
use Rattle.std.proofs.lemmas.Bool.{false≢true}
use Rattle.std.proofs.Common.{arith, ne_eqb}
use Rattle.sizes.specs.Basics.{among, pick}
use Rattle.layout.specs.Step.{Step}
use Rattle.grammar.specs.Layout.{Order, any_bytes, no_zero, suits, string}
use Rattle.grammar.specs.Numbers.{zero_byte}
use Rattle.grammar.specs.Part.{part_of}
use Rattle.store.specs.declared.Name.{Name}
use Rattle.store.specs.Fields.{lent, letters, bytes_of}
use Rattle.store.specs.Put.{content_verdict, text_verdict}
use Rattle.store.specs.Puts.{PutsPlainTo}
use Rattle.sections_put.specs.Fields.{digit, hex}
use Rattle.sections_put.specs.Names.{has_zero}
use Rattle.sections_put.specs.Laws.Puts.{string_puts}

-- ---- a name

module _ (s : List ℕ) (n : Name) where
  -- "18 at the length byte of a font name with a zero byte", after 7 and 2 for the same field
  pub zero_refused : has_zero s n ≡ true → zero_byte ≡ text_verdict 4 no_zero s (lent n)
  unfolding has_zero part_of text_verdict content_verdict suits pick bytes_of among
  zero_refused = go (ltb n.length (256 ^ 4)) (leb (n.place + n.length) (length s))
    where
      go : (a i : Bool) → (a && among 0 (pick i (bytes_of s n) [])) ≡ true
          → zero_byte ≡ pick a (pick i (pick (not (among 0 (bytes_of s n))) 0 zero_byte) 2) 7
      go true true e = rw e
      go true false e = absurd (false≢true e)
      go false i e = absurd (false≢true e)

  pub zero_free : has_zero s n ≡ false → text_verdict 4 any_bytes s (lent n) ≡ text_verdict 4 no_zero s (lent n)
  unfolding has_zero part_of text_verdict content_verdict suits pick bytes_of among
  zero_free = go (ltb n.length (256 ^ 4)) (leb (n.place + n.length) (length s))
    where
      go : (a i : Bool) → (a && among 0 (pick i (bytes_of s n) [])) ≡ false
          → pick a (pick i 0 2) 7 ≡ pick a (pick i (pick (not (among 0 (bytes_of s n))) 0 zero_byte) 2) 7
      go true true e = rw e
      go true false e = refl
      go false i e = refl

-- ---- a writer's own letters

pub letters_puts : {o : Order} {w : ℕ} {xs b : List ℕ} {st : Step} {b' : List ℕ} {r : Step} → among 0 xs ≡ false
    → PutsPlainTo (string o w any_bytes) (letters xs) b st b' r → PutsPlainTo (string o w no_zero) (letters xs) b st b' r
unfolding text_verdict content_verdict suits pick
letters_puts e x = record { any = λ s. string_puts (rw e) (x.any s) }

-- of a color
digit_letter : (n : ℕ) → eqb 0 (digit n) ≡ false
unfolding digit pick
digit_letter n = go (ltb n 10)
  where
    go : (b : Bool) → eqb 0 (pick b (0x30 + n) (0x57 + n)) ≡ false
    go true = ne_eqb 0 (0x30 + n) (λ e. omega arith)
    go false = ne_eqb 0 (0x57 + n) (λ e. omega arith)

pub hex_clean : (color : ℕ) → among 0 (hex color) ≡ false
unfolding hex among
hex_clean color = simp digit_letter
