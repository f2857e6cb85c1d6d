-- The double of a Value that is a number: what of a reading is asked for there.
use Rattle.std.specs.Prelude.{◌≡◌, Bool, true, false, List, [], ◌∷◌, ℕ, eqb}
use Rattle.std.proofs.Math.Path.{refl, ap}
use Rattle.std.proofs.Common.{sym, ◌∙◌, ne_eqb}
use Rattle.std.proofs.lemmas.Bool.{false≢true}
use Rattle.sizes.specs.Sizes.{below_value}
use Rattle.layout.specs.Step.{Step}
use Rattle.std.specs.Prelude.{Ok, Err}
use Rattle.sizes.specs.Basics.{among, pick}
use Rattle.grammar.specs.Layout.{little, Layout, Tree, Bytes}
use Rattle.grammar.specs.Conventions.{choose}
use Rattle.grammar.specs.Laws.Layout as laws
use Rattle.grammar.specs.Laws.Layout.Read.{Got, got, no, read}
use Rattle.layout.specs.Reads.{chain, step, peek, skip}
use Rattle.fields.specs.Gives.{ShowsTo}
use Rattle.fields.specs.Laws.Shows.{number_shows}
use Rattle.store.specs.Fields.{Fields, placed}
use Rattle.layout.specs.Steps.Runs.{begins}
use Rattle.grammar.specs.Value.{cell_zeros, CellValue, RawValueOf, ValueIn}
use Rattle.contents.specs.declared.RawValue.{RawValue}
use Rattle.contents.specs.Said.{Contents}
use Rattle.contents.specs.declared.figure.Figure.{Figure}
use Rattle.contents.specs.Contents.{position_of, said, Form, layouts, Raw, either, chosen, each_form, raw_says, contents, says_01, says_02, says_03, says_04, says_05, says_06, says_31, says_58}
use Rattle.contents.specs.Answers.{unread, refused}
use Rattle.contents.specs.Laws.Answers.{outcome, value_of, value_answers, leading_shows, after_run, answer_is, value_answer, answer_of, reading_says, derived_in_front}
use Rattle.contents.specs.Laws.Plain.{plain}
use Rattle.contents.proofs.Laws.Plain.{plain_answers}
use Rattle.contents.specs.Laws.Figure.{no_figure, figure_with, figure}

-- ---- a form that is no number says no figure

none_either : (g h : Layout) (b : Bool) (x : Fields g → RawValue) (y : Fields h → RawValue) → ((f : Fields g) → b ≡ true → figure (x f) ≡ no_figure)
    → ((f : Fields h) → figure (y f) ≡ no_figure) → (f : Fields (pick b g h)) → figure (either g h b x y f) ≡ no_figure
unfolding either pick
none_either g h true x y p q f = p f refl
none_either g h false x y p q f = q f

-- of these forms the one that begins with n says none
abbrev NoneSaid : ℕ → List Form → Type 0
NoneSaid n [] = Unit {0}
NoneSaid n (x ∷ fs) = ((f : Fields x.layout) → eqb n x.key ≡ true → figure (x.says f) ≡ no_figure) × NoneSaid n fs

none_chosen : (fs : List Form) (n : ℕ) → NoneSaid n fs → (f : Fields (choose (layouts fs) n)) → figure (chosen fs n f) ≡ no_figure
unfolding chosen figure_with among pick
none_chosen [] n h f = refl
none_chosen (x ∷ fs) n h f = none_either x.layout (choose (layouts fs) n) (eqb n x.key) x.says (chosen fs n) h.0 (none_chosen fs n h.1) f

other_form : (version : ℕ) (v : Layout) (n : ℕ) → eqb n 1 ≡ false → eqb n 2 ≡ false → (f : Fields (choose (layouts (each_form version v)) n)) → figure (chosen (each_form version v) n f) ≡ no_figure
unfolding figure_with among pick says_01 says_02 says_03 says_04 says_05 says_06 says_31 says_58
other_form version v n a b =
    none_chosen (each_form version v) n
    (λ f e. absurd (false≢true (sym a ∙ e)), (λ f e. absurd (false≢true (sym b ∙ e)), (λ f e. refl, (λ f e. refl, (λ f e. refl, (λ f e. refl, (λ f e. refl, (λ f e. refl, tt))))))))

-- ---- the answer for some bytes

module _ (version : ℕ) {s : List ℕ} (bs : Bytes s) where
  -- a Value that is not read
  pub figure_unread : {n : ℕ} {z : Figure} → n ≡ unread version s → (n ≡ 0 → ⊥) → z ≡ no_figure → z ≡ figure (value_answer version s).raw
  unfolding answer_of pick figure_with among
  figure_unread {n} e h i = i ∙ rw (ne_eqb (unread version s) 0 (λ z. h (e ∙ z)))

  -- one that is read
  pub figure_read : {q r : Step} {n : ℕ} {y : RawValue} {z : Figure} → unread version s ≡ 0 → n ≡ cell_zeros version
      → ShowsTo (Raw version) (said (Raw version) (raw_says version (ValueIn version below_value))) s q r y → q ≡ skip 0 n s (Ok 0)
      → z ≡ outcome (λ p x. figure x) (λ n p. no_figure) r y → z ≡ figure (value_answer version s).raw
  unfolding figure_with among pick
  figure_read {q} {r} {n} {y} known e h f i =
      i ∙ same r ∙ ap (λ (x : Contents). figure x.raw) (answer_is bs (value_answers version known bs e h f refl))
    where
      same : (r : Step) → outcome (λ p x. figure x) (λ n p. no_figure) r y ≡ figure (outcome (value_of version) refused r (position_of q, y)).raw
      same (Ok p) = refl
      same (Err (n, p)) = refl

  -- one of another form, which need not be read
  pub figure_other : {q : Step} {n x : ℕ} {z : Figure} → unread version s ≡ 0 → n ≡ cell_zeros version → q ≡ skip 0 n s (Ok 0) → x ≡ peek little 1 s q → eqb x 1 ≡ false → eqb x 2 ≡ false
      → z ≡ no_figure → z ≡ figure (value_answer version s).raw
  unfolding CellValue RawValueOf begins contents raw_says placed answer_of pick figure_with among
  figure_other {q} {n} {x} known e f g a b i = i ∙ go (eqb (unread version s) 0) (read (CellValue version) s 0) refl
    where
      first : ShowsTo (CellValue version) (after_run 0 (cell_zeros version) (Raw version) (λ t at. t.0)) s (Ok 0) (chain q (step (Raw version) s)) (position_of q, x)
      first = leading_shows refl (number_shows (record { is = refl }) g) (rw e at f)

      go : (c : Bool) (y : Got (Tree (CellValue version))) → read (CellValue version) s 0 ≡ y
          → no_figure ≡ figure (pick c (reading_says (contents version) refused y) (refused (unread version s) 0)).raw
      go false y j = refl
      go true (no m p) j = refl
      go true (got t r p) j =
          let sp = laws.sound (CellValue version) s bs 0 t r p j in
          let k : t.1.0 ≡ x = ap (λ (w : ℕ × ℕ). w.1) (derived_in_front bs first t r (record { valid = sp.0; split = sp.1 })).1 in
          sym (other_form version (ValueIn version below_value) t.1.0 (rw k a) (rw k b) (placed (CellValue version) t 0).1.1)

  pub figure_plain : {bits : ℕ} → plain version s ≡ true → bits ≡ peek little 8 s (Ok 6) → record { form = 1; bits = bits } ≡ figure (value_answer version s).raw
  unfolding figure_with among pick
  figure_plain e i = rw i (ap (λ (x : Contents). figure x.raw) (answer_is bs (plain_answers version bs e)))
