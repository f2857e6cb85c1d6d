-- The styles of a look are those of its fields: looks with the same fields have the same styles.
use Rattle.std.specs.Prelude.{◌≡◌, ℕ, zero, suc, Bool, true, false, List, [], ◌∷◌, ◌==◌, refl}
use Rattle.std.proofs.Common.{sym, ap, ◌∙◌}
use Rattle.store.specs.declared.Name.{Name}
use Rattle.store.specs.Fields.{Text, lent, letters, Fields}
use Rattle.store.specs.Values.{bit}
use Rattle.look.specs.declared.AreaColor as from-color
use Rattle.look.specs.declared.AreaStyle as from-style
use Rattle.look.specs.declared.Look.{Look}
use Rattle.look.specs.Look.{Separator, AreaColor, AreaStyle, MostAreas, TableLook02}
use Rattle.look.specs.Values as values
use Rattle.look.specs.Laws.Separators.{separator_at, separator_back}
use Rattle.styles.specs.declared.Area.{Area}
use Rattle.styles.specs.declared.Border.{Border}
use Rattle.styles.specs.declared.Styles.{Styles}
use Rattle.styles.specs.Styles.{size, style, halign, valign, margin, background, area, areas, border, borders, styles}

bit_back : (b : Bool) → (bit b == 1) ≡ b
bit_back true = refl
bit_back false = refl

name_of : Text → Name
name_of (lent n) = n
name_of (letters xs) = record { place = 0; length = 0 }

area_of : Fields AreaColor → Fields AreaStyle → Area
unfolding name_of
area_of c f = record {
  typeface = name_of f.1.0.0.1;
  size = size f.0.1.0.0.0.0.0.0.0;
  style = style f.0.1.0.1.0 (f.1.0.0.0.0.0.0.0.0 == 1);
  underline = (f.1.0.0.0.0.0.0.1.0 == 1);
  halign = halign f.0.0.0.0.0.0.0.0.0.0.0.1.0;
  valign = valign f.0.0.0.0.0.0.0.0.0.0.0.0.0;
  fg_color = f.1.0.1.0;
  bg_color = background (record { color10 = c.0.0.0.1.0; color0 = c.0.0.1.0; shading = c.0.1.0 });
  left_margin = margin f.0.0.0.0.0.0.0.0.0.1.0;
  right_margin = margin f.0.0.0.0.0.0.0.0.1.0;
  top_margin = margin f.0.0.0.0.0.0.0.1.0;
  bottom_margin = margin f.0.0.0.0.0.0.1.0;
}

area_same : (c : from-color.AreaColor) (x : from-style.AreaStyle) → area_of (values.area_color c) (values.area_style x) ≡ area c x
unfolding area_of
area_same c x = rw (bit_back x.typeface.italic, bit_back x.typeface.underline)

-- the area at an index of most-areas
most_at : ℕ → List (Fields MostAreas) → Area → Area
unfolding area_of
most_at n [] other = other
most_at zero (f ∷ fs) other = area_of f.0.0.0.0.1 f.1
most_at (suc n) (f ∷ fs) other = most_at n fs other

-- the border at an index of a group of separators
border_at : ℕ → List (Fields Separator) → Border
border_at n fs = border (separator_at n fs)

styles_of : Fields TableLook02 → Styles
styles_of f =
    let separators = f.1.1.1.0.0.0 in
    let rows = separators.0.0.0.0.1 in
    let columns = separators.1 in
    let frames = f.1.1.1.1.0.0.0.0.0 in
    let text = f.1.1.1.0.1 in
    let title = area_of f.1.1.1.0.0.1.1 text.0.1 in
    let most = text.1 in
    record {
      areas = record {
        title = title;
        caption = most_at 5 most title;
        footer = most_at 6 most title;
        corner = most_at 1 most title;
        column_labels = most_at 3 most title;
        row_labels = most_at 2 most title;
        «data» = most_at 4 most title;
        layers = most_at 0 most title;
      };
      borders = record {
        title = border_at 0 frames;
        outer = record { left = border_at 5 frames; top = border_at 7 frames; right = border_at 6 frames; bottom = border_at 8 frames };
        inner = record { left = border_at 1 frames; top = border_at 3 frames; right = border_at 2 frames; bottom = border_at 4 frames };
        data_left = border_at 9 frames;
        data_top = border_at 10 frames;
        dimension_rows = record { horizontal = border_at 0 rows; vertical = border_at 1 rows };
        dimension_columns = record { horizontal = border_at 0 columns; vertical = border_at 1 columns };
        category_rows = record { horizontal = border_at 2 rows; vertical = border_at 3 rows };
        category_columns = record { horizontal = border_at 2 columns; vertical = border_at 3 columns };
      };
    }

by_fields : (x : Look) → styles_of (values.fields x) ≡ styles x
unfolding styles_of most_at border_at separator_at styles areas borders
by_fields x =
    rw (
      area_same x.title.color x.title.style,
      area_same x.most_areas.layers.color x.most_areas.layers.style,
      area_same x.most_areas.corner.color x.most_areas.corner.style,
      area_same x.most_areas.row_labels.color x.most_areas.row_labels.style,
      area_same x.most_areas.column_labels.color x.most_areas.column_labels.style,
      area_same x.most_areas.data.color x.most_areas.data.style,
      area_same x.most_areas.caption.color x.most_areas.caption.style,
      area_same x.most_areas.footer.color x.most_areas.footer.style,
      separator_back x.v2.frames.title,
      separator_back x.v2.frames.outer.left,
      separator_back x.v2.frames.outer.top,
      separator_back x.v2.frames.outer.right,
      separator_back x.v2.frames.outer.bottom,
      separator_back x.v2.frames.inner.left,
      separator_back x.v2.frames.inner.top,
      separator_back x.v2.frames.inner.right,
      separator_back x.v2.frames.inner.bottom,
      separator_back x.v2.frames.data_left,
      separator_back x.v2.frames.data_top,
      separator_back x.rows.horizontal_dimension,
      separator_back x.rows.vertical_dimension,
      separator_back x.rows.horizontal_category,
      separator_back x.rows.vertical_category,
      separator_back x.columns.horizontal_dimension,
      separator_back x.columns.vertical_dimension,
      separator_back x.columns.horizontal_category,
      separator_back x.columns.vertical_category,
    )

pub same_styles : (x y : Look) → values.fields x ≡ values.fields y → styles x ≡ styles y
same_styles x y e = sym (by_fields x) ∙ ap styles_of e ∙ by_fields y
