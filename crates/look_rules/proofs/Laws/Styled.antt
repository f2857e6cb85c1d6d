-- What is known of the look that reading answers, where its file keeps the rule of styles: each border is listed, and each of the eight areas
-- can be written.
use Rattle.std.specs.Prelude.{◌≡◌, refl, Bool, true, false, ℕ, suc, ◌+◌, ◌^◌, ◌≤◌, ◌<◌, length, eqb, ℤ, pos, negsuc}
use Rattle.std.proofs.Common.{sym, ◌∙◌, subst, arith, SFits}
use Rattle.std.proofs.Math.Path.{ap}
use mathlib.Core.List.{List, [], ◌∷◌, append-nil, map}
use Rattle.std.specs.Int.{w32}
use Rattle.sizes.specs.Basics.{among, pick}
use Rattle.grammar.specs.Layout.{no_zero, Layout, ◌▸◌, Tree, spell, suits, Bytes, All, all_none, all_more, Derivation}
use Rattle.grammar.specs.Rule.{Kept, Breaks}
use Rattle.grammar.specs.Laws.Layout as laws
use Rattle.grammar.specs.Laws.Layout.Read.{Got, got, no, read}
use Rattle.grammar.specs.Laws.Layout.Check.{check}
use Rattle.std.specs.Prelude.{Ok, Err}
use Rattle.layout.specs.Reads.{forget}
use Rattle.store.specs.Values.{twos}
use Rattle.store.specs.Fields.{Fields, placed_all, placed, bytes_of, text_of, resolve_all, resolve}
use Rattle.store.specs.Laws.Trees.{Stands, resolve_placed}
use Rattle.look.specs.declared.Separator as border
use Rattle.look.specs.declared.Lines.{Lines}
use Rattle.look.specs.declared.AreaStyle as area
use Rattle.look.specs.declared.Area.{Area}
use Rattle.look.specs.declared.MostAreas as most
use Rattle.look.specs.declared.Frames.{Frames}
use Rattle.look.specs.declared.Look.{Look}
use Rattle.look.specs.Look.{Separator, PVSeparatorStyle, PVCellStyle, AreaStyle, MostAreas, PVTextStyle, V2StylesIf, TableLook, TableLook02}
use Rattle.look.specs.Values as values
use Rattle.look.specs.Answers.{v2_data, look_of, accepted, expected}
use Rattle.look_rules.specs.StyleRule.{listed, listed_border, last_valign, last_halign, most_height, height, style_rule}
use Rattle.look_rules.proofs.Laws.Listed.{fields_listed, of_tree, of_border}
use Rattle.look_rules.proofs.Laws.Exactly.{numbers, kept_next, given, refused_exactly}
use Rattle.look_rules.proofs.Laws.Kept.{KeptArea, Listed, sep3_if, look_kept}

-- ---- the statements

abbrev pub lines : Lines → List border.Separator
lines x = x.horizontal_dimension ∷ x.vertical_dimension ∷ x.horizontal_category ∷ x.vertical_category ∷ []

abbrev pub frames : Frames → List border.Separator
frames x =
    x.title ∷ x.inner.left ∷ x.inner.right ∷ x.inner.top ∷ x.inner.bottom ∷ x.outer.left ∷ x.outer.right ∷ x.outer.top
    ∷ x.outer.bottom ∷ x.data_left ∷ x.data_top ∷ []

-- "layers, corner, row labels, column labels, data, caption, and footer"
abbrev pub areas : most.MostAreas → List Area
areas x = x.layers ∷ x.corner ∷ x.row_labels ∷ x.column_labels ∷ x.data ∷ x.caption ∷ x.footer ∷ []

abbrev pub AllListed : List border.Separator → Type 0
AllListed xs = All (λ b. listed_border b ≡ true) xs

-- of an area's style, whose font name lies in the file bs
pub record StyledArea (bs : List ℕ) (x : area.AreaStyle) : Type 0 where
  pub valign_listed : x.alignment.valign ≤ last_valign
  pub halign_listed : x.alignment.halign ≤ last_halign
  pub size_below_zero : 2 ^ 31 ≤ twos x.font.font_size
  pub height_allowed : height (twos x.font.font_size) ≤ most_height
  pub name_without_zero : suits no_zero (bytes_of bs x.typeface.font_name) ≡ true

pub record StyledLook (bs : List ℕ) (x : Look) : Type 0 where
  pub rows_listed : AllListed (lines x.rows)
  pub columns_listed : AllListed (lines x.columns)
  pub title_styled : StyledArea bs x.title.style
  pub most_styled : All (λ a. StyledArea bs a.style) (areas x.most_areas)
  pub frames_listed : AllListed (frames x.v2.frames)

-- a signed size that is below 0, and whose height is allowed
pub record Sized (z : ℤ) : Type 0 where
  pub n : ℕ
  pub below_zero : z ≡ negsuc n
  pub height_is : height (twos z) ≡ suc n
  pub allowed : suc n ≤ most_height

pub sized : (z : ℤ) → SFits w32 z → 2 ^ 31 ≤ twos z → height (twos z) ≤ most_height → Sized z
sized (pos n) h l m = absurd (omega (arith, h.sfits))
sized (negsuc n) h l m =
    let e : height (twos (negsuc n)) ≡ suc n = omega (arith, h.sfits) in
    record { n = n; below_zero = refl; height_is = e; allowed = omega (arith, m, e) }

-- ---- borders

-- by their fields
abbrev FieldsListed : List (Fields Separator) → Type 0
FieldsListed fs = All (λ f. fields_listed (eqb f.0 1) f.1 ≡ true) fs

of_trees : {ts : List (Tree Separator)} (at : ℕ) → All Listed ts → FieldsListed (placed_all (placed Separator) (spell Separator) ts at)
unfolding placed_all placed
of_trees at all_none = all_none
of_trees at (all_more {x = t} h hs) = all_more (of_tree (eqb t.0 1) t.1 (at + 1) ∙ h) (of_trees _ hs)

of_borders : (xs : List border.Separator) → FieldsListed (map values.separator xs) → AllListed xs
of_borders [] all_none = all_none
of_borders (x ∷ xs) (all_more h hs) = all_more (sym (of_border x) ∙ h) (of_borders xs hs)

-- those of version 02, or the defaults
v2_frames : (b : Bool) (t : Tree (V2StylesIf b)) (at : ℕ) → All Listed (sep3_if b t) → FieldsListed (v2_data b (placed (V2StylesIf b) t at)).0.0.0.0.0
unfolding placed listed pick
v2_frames true t at h = of_trees _ h
v2_frames false t at h =
    all_more refl (all_more refl (all_more refl (all_more refl (all_more refl (all_more refl (all_more refl (all_more refl (all_more refl (all_more refl (all_more refl all_none))))))))))

-- ---- areas

-- by their trees
area_styled : (bs : List ℕ) (x : area.AreaStyle) → KeptArea (resolve AreaStyle bs (values.area_style x)) → StyledArea bs x
unfolding resolve text_of
area_styled bs x k = record {
  valign_listed = k.valign_listed;
  halign_listed = k.halign_listed;
  size_below_zero = k.size_below_zero;
  height_allowed = k.height_allowed;
  name_without_zero = k.name_without_zero;
}

areas_styled : (bs : List ℕ) (xs : List Area) → All (λ m. KeptArea m.1) (resolve_all (resolve MostAreas bs) (map values.area xs)) → All (λ a. StyledArea bs a.style) xs
unfolding resolve resolve_all
areas_styled bs [] all_none = all_none
areas_styled bs (x ∷ xs) (all_more h hs) = all_more (area_styled bs x.style h) (areas_styled bs xs hs)

-- ---- the look

abbrev three : Layout
three = PVSeparatorStyle ▸ PVCellStyle ▸ PVTextStyle

abbrev three_of : Look → Fields three
three_of x = values.◌&◌ (values.◌&◌ (values.separator_style x.rows x.columns) (values.cell_style x.title.color)) (values.text_style x.title.style x.most_areas)

module _ {bs : List ℕ} (d : Derivation TableLook bs) (x : Look) (e : look_of (placed TableLook d.tree 0) ≡ values.fields x) where
  stands : Stands (spell TableLook d.tree) bs 0 []
  stands = record { inside = omega arith; here = sym d.spells ∙ sym (append-nil (spell TableLook d.tree)) }

  three_is : resolve three bs (three_of x) ≡ d.tree.1.1.1.0
  unfolding placed resolve
  three_is =
      ap (resolve three bs) (sym (ap (λ (f : Fields TableLook02). f.1.1.1.0) e))
      ∙ ap (λ (t : Tree TableLook). t.1.1.1.0) (resolve_placed TableLook d.tree bs 0 [] stands)

  pub styled : Kept style_rule d.tree → StyledLook bs x
  unfolding placed resolve
  styled k =
      let h = look_kept d.tree k in
      record {
        rows_listed = of_borders _ (subst FieldsListed (ap (λ (f : Fields TableLook02). f.1.1.1.0.0.0.0.0.0.0.1) e) (of_trees _ h.rows));
        columns_listed = of_borders _ (subst FieldsListed (ap (λ (f : Fields TableLook02). f.1.1.1.0.0.0.1) e) (of_trees _ h.columns));
        title_styled = area_styled bs x.title.style (subst (λ (t : Tree three). KeptArea t.1.0.1) (sym three_is) h.title);
        most_styled = areas_styled bs (areas x.most_areas) (subst (λ (t : Tree three). All (λ m. KeptArea m.1) t.1.1) (sym three_is) h.most);
        frames_listed = of_borders _ (subst FieldsListed (ap (λ (f : Fields TableLook02). f.1.1.1.1.0.0.0.0.0) e) (v2_frames (eqb d.tree.1.0 2) d.tree.1.1.1.1 _ h.frames));
      }

-- ---- of what `read_look` and `check_styles` answer

-- an accepted look is that of a derivation
pub record Answered (bs : List ℕ) (x : Look) : Type 0 where
  pub derivation : Derivation TableLook bs
  pub look : look_of (placed TableLook derivation.tree 0) ≡ values.fields x

pub answered : {bs : List ℕ} → Bytes bs → (x : Look) → accepted (values.fields x) ≡ expected (read TableLook bs 0) → Answered bs x
unfolding expected
answered {bs} h x = go (read TableLook bs 0) refl
  where
    go : (y : Got (Tree TableLook)) → read TableLook bs 0 ≡ y → accepted (values.fields x) ≡ expected y → Answered bs x
    go (no n p) i e = absurd (let z : ◌≡◌ {A = ℕ} 0 1 = cc in omega arith)
    go (got t (b ∷ r) p) i e = absurd (let z : ◌≡◌ {A = ℕ} 0 1 = cc in omega arith)
    go (got t [] p) i e =
        let q = laws.sound TableLook bs h 0 t [] p i in
        let same : look_of (placed TableLook t 0) ≡ values.fields x = cc in
        record { derivation = record { tree = t; valid = q.0; spells = sym (q.1 ∙ append-nil (spell TableLook t)) }; look = same }

-- the look can become styles
pub next_styled : {bs : List ℕ} → Bytes bs → (x : Look) → accepted (values.fields x) ≡ expected (read TableLook bs 0) → {p : ℕ} → forget (check style_rule bs 0) ≡ Ok p → StyledLook bs x
next_styled h x e i = let a = answered h x e in styled a.derivation x a.look (kept_next h a.derivation i)

-- or it can't: by 7, 18 or 29, at a byte of its file
pub refused_given : {bs : List ℕ} → Bytes bs → (x : Look) → accepted (values.fields x) ≡ expected (read TableLook bs 0) → {n p : ℕ} → forget (check style_rule bs 0) ≡ Err (n, p)
    → Breaks TableLook style_rule bs 0 n p × (among n numbers ≡ true) × (p < length bs)
refused_given {bs} h x e {n} {p} i =
    let broken = (refused_exactly bs h n p).0 i in
    let known = given h (answered h x e).derivation broken in
    (broken, known.0, known.1)
