-- The names of an accepted look that keeps the rule of styles can be written: each lies inside the file, has at most 255 bytes and none that is 0.
use Rattle.std.specs.Prelude.{◌≡◌, refl, Bool, true, false, not, List, [], ◌∷◌, ℕ}
use Rattle.std.proofs.Common.{sym, arith}
use Rattle.std.proofs.lemmas.Bool.{false≢true}
use Rattle.grammar.specs.Layout.{Bytes, All, all_more, suits}
use Rattle.grammar.specs.Rule.{Kept}
use Rattle.grammar.specs.Laws.Layout.Read.{read}
use Rattle.store.specs.Unwritable.{Writable}
use Rattle.look.specs.declared.AreaStyle.{AreaStyle}
use Rattle.look.specs.declared.Look.{Look}
use Rattle.std.specs.Prelude.{Ok}
use Rattle.look.specs.Look as grammar
use Rattle.look.specs.Look.{TableLook}
use Rattle.look.specs.Values as values
use Rattle.look.specs.Answers.{outcome, expected}
use Rattle.look_write.specs.Laws.Theorems.{of_file, fields_are, can_be_written}
use Rattle.look_rules.specs.StyleRule.{style_rule}
use Rattle.look_rules.proofs.Laws.Styled.{StyledArea, StyledLook, styled}
use Rattle.styles.specs.declared.Areas.{Areas}
use Rattle.styles.specs.Styles.{areas, styles}
use Rattle.sections_put.specs.Names.{Each, Short, Named}

no_zero_byte : (b : Bool) → not b ≡ true → b ≡ false
no_zero_byte true e = absurd (false≢true e)
no_zero_byte false e = refl

-- of one area
named : (s : List ℕ) (x : AreaStyle) → Writable grammar.AreaStyle s (values.area_style x) → StyledArea s x → Named s x.typeface.font_name
unfolding suits
named s x w k =
    let n = w.1.0.0.1 in
    record { short = omega (arith, n.0); inside = n.1; clean = no_zero_byte _ k.name_without_zero }

-- each of seven
seven : {A : Type 0} {P : A → Type 0} {a b c d e f g : A} → All P (a ∷ b ∷ c ∷ d ∷ e ∷ f ∷ g ∷ [])
    → P a × (P b × (P c × (P d × (P e × (P f × P g)))))
seven (all_more a (all_more b (all_more c (all_more d (all_more e (all_more f (all_more g h))))))) = (a, (b, (c, (d, (e, (f, g))))))

module _ (bs : List ℕ) (h : Bytes bs) (y : Look) (i : outcome (Ok y) ≡ expected (read TableLook bs 0)) where
  -- it can become styles: what 002 doesn't list is nowhere in it
  pub styled_look : Kept style_rule (of_file bs h y i).tree → StyledLook bs y
  styled_look k = styled (of_file bs h y i) y (sym (fields_are bs h y i)) k

  pub all_named : Kept style_rule (of_file bs h y i).tree → Each (Named bs) (styles y).areas
  unfolding styles areas
  all_named k =
      let st = styled_look k in
      let w = (can_be_written bs h y i).1.1.1.0.1 in
      let k₇ = seven st.most_styled in
      let w₇ = seven w.1 in
      record {
        title = named bs y.title.style w.0.1 st.title_styled;
        layers = named bs y.most_areas.layers.style w₇.0.1 k₇.0;
        corner = named bs y.most_areas.corner.style w₇.1.0.1 k₇.1.0;
        row_labels = named bs y.most_areas.row_labels.style w₇.1.1.0.1 k₇.1.1.0;
        column_labels = named bs y.most_areas.column_labels.style w₇.1.1.1.0.1 k₇.1.1.1.0;
        body = named bs y.most_areas.data.style w₇.1.1.1.1.0.1 k₇.1.1.1.1.0;
        caption = named bs y.most_areas.caption.style w₇.1.1.1.1.1.0.1 k₇.1.1.1.1.1.0;
        footer = named bs y.most_areas.footer.style w₇.1.1.1.1.1.1.1 k₇.1.1.1.1.1.1;
      }

-- so each is short
pub names_short : {s : List ℕ} {x : Areas} → Each (Named s) x → Each Short x
names_short n = record {
  title = n.title.short;
  caption = n.caption.short;
  footer = n.footer.short;
  corner = n.corner.short;
  column_labels = n.column_labels.short;
  row_labels = n.row_labels.short;
  body = n.body.short;
  layers = n.layers.short;
}
