-- A number with no modifier and no byte 00 before it: 01 58, its format and its double.
use Rattle.std.specs.Prelude.{◌≡◌, Bool, true, List, [], ◌∷◌, ℕ, zero, suc, ◌+◌, ◌*◌, ◌≤◌, length, drop, eqb, leb}
use Rattle.std.proofs.Math.Path.{refl}
use Rattle.std.proofs.Common.{sym, arith, length-drop, eqb-true, ne_eqb, leb-true, le-leb}
use Rattle.std.proofs.Math.Bool.{false}
use Rattle.std.proofs.lemmas.Bool.{false≢true}
use Rattle.sizes.specs.Sizes.{below_value}
use Rattle.std.specs.Prelude.{Ok}
use Rattle.sizes.specs.Basics.{among, pick}
use Rattle.grammar.specs.Layout.{little, one_of_but, passes, Layout, empty, undigits, Bytes}
use Rattle.grammar.specs.Laws.Layout.Read.{read_number, lead}
use Rattle.layout.specs.Reads.{ReadsTo, peek, field, skip}
use Rattle.layout.specs.Steps.Chain.{empty_of}
use Rattle.layout.specs.Steps.Numbers.{free_of, arm_of}
use Rattle.fields.specs.Gives.{ShowsTo}
use Rattle.fields.specs.Laws.Shows.{◌&◌, shows_nothing, shows_of}
use Rattle.fields.specs.Laws.Gives.{to_shows, number_gives}
use Rattle.store.specs.Fields.{placed}
use Rattle.grammar.specs.Value.{Modifiers, without_long_form, left_out, ValueMod, Form01, RawValueOf, ValueIn, cell_zeros}
use Rattle.contents.specs.Contents.{none, raw, said, says_01, chosen, either, raw_says}
use Rattle.contents.specs.Answers.{unread, ValueAnswers}
use Rattle.contents.specs.Laws.Forms.{form_shows}
use Rattle.contents.specs.Laws.Answers.{value_answers}
use Rattle.contents.specs.Laws.Plain.{plain, plain_raw, plain_value}

record Plain (version : ℕ) (s : List ℕ) : Type 0 where
  long : 14 ≤ length s
  known : unread version s ≡ 0
  first : 1 ≡ peek little 1 s (Ok 0)
  second : 0x58 ≡ peek little 1 s (Ok 1)

is_plain : (version : ℕ) (s : List ℕ) → plain version s ≡ true → Plain version s
unfolding plain pick
is_plain version s e =
    go (leb 14 (length s)) refl (eqb (unread version s) 0) refl (eqb (peek little 1 s (Ok 0)) 1) refl (eqb (peek little 1 s (Ok 1)) 0x58) refl e
  where
    go : (a : Bool) → leb 14 (length s) ≡ a → (b : Bool) → eqb (unread version s) 0 ≡ b → (c : Bool) → eqb (peek little 1 s (Ok 0)) 1 ≡ c
        → (d : Bool) → eqb (peek little 1 s (Ok 1)) 0x58 ≡ d → pick a (pick b (pick c d false) false) false ≡ true → Plain version s
    go true i true j true k true l h = record {
      long = leb-true 14 (length s) i;
      known = eqb-true (unread version s) 0 j;
      first = sym (eqb-true (peek little 1 s (Ok 0)) 1 k);
      second = sym (eqb-true (peek little 1 s (Ok 1)) 0x58 l);
    }
    go true i true j true k false l h = absurd (false≢true h)
    go true i true j false k d l h = absurd (false≢true h)
    go true i false j c k d l h = absurd (false≢true h)
    go false i b j c k d l h = absurd (false≢true h)

-- ---- what is read

field_next : (w at : ℕ) (s : List ℕ) → at + w ≤ length s → Ok (at + w) ≡ field w 0 s (Ok at)
unfolding field read_number pick
field_next w at s h = rw (le-leb w (length (drop at s)) (omega (arith, length-drop at s)))

-- no byte 00 stands before it
no_zeros : (n : ℕ) (s : List ℕ) → 1 ≤ length s → 1 ≡ peek little 1 s (Ok 0) → Ok 0 ≡ skip 0 n s (Ok 0)
unfolding skip lead peek read_number pick undigits
no_zeros n [] l e = absurd (omega arith)
no_zeros zero (x ∷ xs) l e = refl
no_zeros (suc n) (x ∷ xs) l e =
    let i : 1 ≡ x + 256 * 0 = rw (le-leb 1 (length (x ∷ xs)) l) at e in
    rw (ne_eqb x 0 (λ z. omega arith))

short_passes : (without : Bool) → passes (one_of_but (0x31 ∷ 0x58 ∷ []) (pick without (0x31 ∷ []) [])) 0x58 ≡ true
unfolding passes among pick
short_passes true = refl
short_passes false = refl

module _ (version : ℕ) {s : List ℕ} (p : Plain version s) where
  no_modifier : ReadsTo (ValueMod version) s (Ok 1) (Ok 2)
  unfolding ValueMod pick
  no_modifier =
      arm_of {test = one_of_but (0x31 ∷ 0x58 ∷ []) (left_out version)} {k = λ n. pick (eqb n 0x31) Modifiers empty} {n = 0x58} refl (short_passes (without_long_form version)) empty_of p.second
      (free_of (field_next 1 1 s (omega (arith, p.long))))

  plain_shows : (v : Layout) → ShowsTo (RawValueOf version v) (said (RawValueOf version v) (raw_says version v)) s (Ok 0) (Ok 14) (plain_raw s)
  unfolding Form01 says_01 placed chosen either pick among
  plain_shows v =
      form_shows version v {n = 1} refl refl refl
      (shows_of (λ x. raw 1 x.0.1.0 x.1.0 0 false none none none none none 0 0) (λ t at. refl)
      (shows_nothing no_modifier & to_shows (number_gives (free_of (field_next 4 2 s (omega (arith, p.long)))) refl) & to_shows (number_gives (free_of (field_next 8 6 s (omega (arith, p.long)))) refl)))
      p.first (free_of (field_next 1 0 s (omega (arith, p.long))))

pub plain_answers : (version : ℕ) {s : List ℕ} → Bytes s → plain version s ≡ true → ValueAnswers version s (plain_value s)
plain_answers version {s} bs e =
    let p = is_plain version s e in
    value_answers version p.known bs refl (plain_shows version p (ValueIn version below_value)) (no_zeros (cell_zeros version) s (omega (arith, p.long)) p.first) refl
