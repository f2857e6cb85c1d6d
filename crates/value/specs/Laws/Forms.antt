-- A Value from its parts, at the depth that the code has.
use Rattle.std.specs.Prelude.{◌≡◌, refl, Bool, true, List, [], ◌∷◌, ℕ, zero, suc, ◌-◌, eqb}
use Rattle.std.proofs.Math.Bool.{false}
use Rattle.std.proofs.Common.{sub-one, arith, ne_eqb}
use Rattle.sizes.specs.Sizes.{below_value}
use Rattle.layout.specs.Step.{Step}
use Rattle.sizes.specs.Basics.{among, pick}
use Rattle.grammar.specs.Layout.{Layout, little, Test, one_of_but, passes}
use Rattle.grammar.specs.Conventions.{byte, choose, keys}
use Rattle.grammar.specs.Laws.Layout.Read.{refusal}
use Rattle.layout.specs.Reads.{ReadsTo, peek, skip, field, refused}
use Rattle.layout.specs.Steps.Chain.{nothing_of}
use Rattle.layout.specs.Steps.Numbers.{arm_of, other_of, None, among_none}
use Rattle.layout.specs.Steps.Runs.{begins, leading_of}
use Rattle.layout.specs.Steps.Onward.{Onward, by_number, by_run, by_none}
use Rattle.grammar.specs.Value.{Argument, ArgumentOf, without_long_form, left_out, RawValueOf, ValueIn, CellValue, cell_zeros, forms}

-- a Value and an Argument that were read end after the place where they start
pub value_onward : (version d : ℕ) → Onward (ValueIn version d)
unfolding ValueIn
value_onward version zero = by_none
value_onward version (suc d) = by_run

pub argument_onward : (version d : ℕ) → Onward (Argument version d)
unfolding ArgumentOf
argument_onward version d = by_number {w = 4} (omega arith)

pub too_deep : (version d : ℕ) {s : List ℕ} {st r : Step} → d ≡ 0 → r ≡ refused st → ReadsTo (ValueIn version d) s st r
unfolding ValueIn
too_deep version d e h = rw e (nothing_of h)

-- the run of zero bytes, and then a form
pub after_zeros : (version d : ℕ) {s : List ℕ} {st q r : Step} → (d ≡ 0 → ⊥) → ReadsTo (RawValueOf version (ValueIn version (d - 1))) s q r → q ≡ skip 0 4 s st
    → ReadsTo (ValueIn version d) s st r
unfolding ValueIn RawValueOf begins
after_zeros version zero n h f = absurd (n refl)
after_zeros version (suc d) n h f = leading_of refl (simp sub-one at h) f

pub after_cell_zeros : (version : ℕ) {s : List ℕ} {st q r : Step} {n : ℕ} → n ≡ cell_zeros version → ReadsTo (RawValueOf version (ValueIn version below_value)) s q r → q ≡ skip 0 n s st
    → ReadsTo (CellValue version) s st r
unfolding CellValue RawValueOf begins
after_cell_zeros version e h f = leading_of refl h (rw e at f)

-- a byte that no version leaves out
other_byte : (without : Bool) (n : ℕ) → eqb n 0x31 ≡ false → among n (pick without (0x31 ∷ []) []) ≡ false
unfolding among pick
other_byte true n e = rw e
other_byte false n e = refl

module _ (version : ℕ) (v : Layout) where
  -- the test of the first byte
  abbrev pub first_byte : Test
  first_byte = one_of_but (keys (forms version v)) (left_out version)

  pub form_passes : (n : ℕ) → among n (keys (forms version v)) ≡ true → eqb n 0x31 ≡ false → passes first_byte n ≡ true
  unfolding passes
  form_passes n a b = rw (a, other_byte (without_long_form version) n b)

  pub long_passes : without_long_form version ≡ false → passes first_byte 0x31 ≡ true
  unfolding passes among pick
  long_passes w = rw w

  -- a form by its first byte
  pub form_of : {s : List ℕ} {q p r : Step} {x n : ℕ} → x ≡ n → among n (keys (forms version v)) ≡ true → eqb n 0x31 ≡ false
      → ReadsTo (choose (forms version v) n) s p r → x ≡ peek little 1 s q → ReadsTo byte s q p → ReadsTo (RawValueOf version v) s q r
  unfolding RawValueOf
  form_of {n = n} e a b h f g = arm_of {k = choose (forms version v)} e (form_passes n a b) h f g

  -- the long form, where it is not left out
  pub long_form : {s : List ℕ} {q p r : Step} {x : ℕ} → x ≡ 0x31 → without_long_form version ≡ false → ReadsTo (choose (forms version v) 0x31) s p r → x ≡ peek little 1 s q → ReadsTo byte s q p
      → ReadsTo (RawValueOf version v) s q r
  unfolding RawValueOf
  long_form e w h f g = arm_of {k = choose (forms version v)} e (long_passes w) h f g

  -- and where it is
  pub long_form_left_out : {s : List ℕ} {q r : Step} {x : ℕ} → x ≡ 0x31 → without_long_form version ≡ true → x ≡ peek little 1 s q → r ≡ field 1 4 s q
      → ReadsTo (RawValueOf version v) s q r
  unfolding RawValueOf passes refusal among pick
  long_form_left_out e w f g = other_of {k = choose (forms version v)} (rw (e, w)) f (rw (e, w) g)

  -- no form
  pub no_form : {s : List ℕ} {q r : Step} {x : ℕ} → None (Unit {0}) (keys (forms version v)) x → x ≡ peek little 1 s q → r ≡ field 1 3 s q
      → ReadsTo (RawValueOf version v) s q r
  unfolding RawValueOf passes refusal pick
  no_form {x = x} n f g =
      let a : among x (keys (forms version v)) ≡ false = among_none (Unit {0}) (keys (forms version v)) x n in
      let b : among x (left_out version) ≡ false = other_byte (without_long_form version) x (ne_eqb x 0x31 n.0.1) in
      other_of {k = choose (forms version v)} (rw a) f (rw b g)
