-- Areas and Borders of a member in the place of its own: a derivation again, with the same dimensions, nodes and cells, whose places move by the
-- difference of the lengths.
use Rattle.std.specs.Prelude.{◌≡◌, ◌↔◌, Bool, List, ◌++◌, ℕ, ◌+◌, ◌≤◌, length}
use Rattle.std.proofs.Math.Path.{refl, ap}
use Rattle.std.proofs.Common.{sym, ◌∙◌, append_assoc, arith, length-append}
use Rattle.sizes.specs.Sizes.{member_bytes}
use Rattle.grammar.specs.Layout.{little, Layout, ◌▸◌, Tree, digits, spell, size, Valid}
use Rattle.grammar.specs.Sections.{HeaderStart, Areas, Borders, PrintSettings, TableSettings, Formats, Front}
use Rattle.grammar.specs.Table.{Dimensions, Axes, Cells}
use Rattle.grammar.specs.Member.{Member, version, front_section, dimensions_section, axes_section, cells_section, dimensions, cells, dimensions_at, cells_start, final, MemberDerivation, AsDemanded}
use Rattle.look_sections.specs.Laws.InMember.{Sections, Before, sections_in, front_with, before_in, behind_in, own_sections, member_with, bytes_before, bytes_behind}

-- ---- of what stands before the dimensions

module _ (v : ℕ) where
  regroup : (x a b p t m : List ℕ) → x ++ a ++ b ++ p ++ t ++ m ≡ x ++ (a ++ b ++ (p ++ t ++ m))
  regroup x a b p t m = simp append_assoc

  front_spelt : (f : Tree (Front v)) (w : Tree (Sections v)) → spell (Front v) (front_with v f w) ≡ before_in v f ++ (spell (Sections v) w ++ behind_in v f)
  unfolding Front front_with before_in behind_in spell
  front_spelt f w =
      regroup (spell (Before v) f.0.0.0.0.0) (spell (Areas v) w.0) (spell Borders w.1) (spell PrintSettings f.0.0.1) (spell (TableSettings v) f.0.1) (spell (Formats v) f.1)

  -- with its own it is as it was
  front_own : (f : Tree (Front v)) → front_with v f (sections_in v f) ≡ f
  unfolding Front front_with sections_in
  front_own f = refl

  front_valid : (f : Tree (Front v)) (w : Tree (Sections v)) → Valid (Front v) f → Valid (Sections v) w → Valid (Front v) (front_with v f w)
  unfolding Front front_with
  front_valid f w h k = (((((h.0.0.0.0.0, k.0), k.1), h.0.0.1), h.0.1), h.1)

  sections_valid : (f : Tree (Front v)) → Valid (Front v) f → Valid (Sections v) (sections_in v f)
  unfolding Front sections_in
  sections_valid f h = (h.0.0.0.0.1, h.0.0.0.1)

  lengths : (x s y s' : List ℕ) → length (x ++ (s ++ y)) + length s' ≡ length (x ++ (s' ++ y)) + length s
  lengths x s y s' =
      rw (length-append x (s ++ y), length-append s y, length-append x (s' ++ y), length-append s' y) (omega arith)

  front_moved : (f : Tree (Front v)) (w : Tree (Sections v))
      → size (Front v) (front_with v f w) + size (Sections v) (sections_in v f) ≡ size (Front v) f + size (Sections v) w
  unfolding size
  front_moved f w =
      let own : spell (Front v) f ≡ before_in v f ++ (spell (Sections v) (sections_in v f) ++ behind_in v f) = ap (spell (Front v)) (sym (front_own f)) ∙ front_spelt f (sections_in v f) in
      rw (front_spelt f w, own) (lengths (before_in v f) (spell (Sections v) w) (behind_in v f) (spell (Sections v) (sections_in v f)))

regroup_all : (h d x s y e a c z : List ℕ) → h ++ (d ++ (x ++ (s ++ y) ++ e ++ a ++ c)) ++ z ≡ h ++ (d ++ x) ++ (s ++ (y ++ (e ++ (a ++ (c ++ z)))))
regroup_all h d x s y e a c z = simp append_assoc

spelt_whole : (t : Tree Member) → spell Member t
    ≡ spell HeaderStart t.0
    ++ (digits little 4 (version t)
    ++ (spell (Front (version t)) (front_section t) ++ spell (Dimensions (version t)) (dimensions_section t) ++ spell Axes (axes_section t) ++ spell (Cells (version t)) (cells_section t)))
unfolding spell
spelt_whole t = refl

size_three : (a b c : Layout) (x : Tree a) (y : Tree b) (z : Tree c) → size (a ▸ b ▸ c) ((x, y), z) ≡ size a x + size b y + size c z
unfolding size spell
size_three a b c x y z = length-append (spell a x ++ spell b y) (spell c z) ∙ ap (λ (n : ℕ). n + length (spell c z)) (length-append (spell a x) (spell b y))

module _ (t : Tree Member) (w : Tree (Sections (version t))) where
  pub spelt_with : (ends : Bool) → spell Member (member_with t w) ++ final ends ≡ bytes_before t ++ (spell (Sections (version t)) w ++ bytes_behind t ends)
  unfolding bytes_before bytes_behind
  spelt_with ends =
      rw (spelt_whole (member_with t w), front_spelt (version t) (front_section t) w)
      (regroup_all (spell HeaderStart t.0) (digits little 4 (version t)) (before_in (version t) (front_section t)) (spell (Sections (version t)) w) (behind_in (version t) (front_section t)) (spell (Dimensions (version t)) (dimensions_section t)) (spell Axes (axes_section t)) (spell (Cells (version t)) (cells_section t)) (final ends))

  pub valid_with : Valid Member t → Valid (Sections (version t)) w → Valid Member (member_with t w)
  valid_with h k = (h.0, (h.1.0, h.1.1, (((front_valid (version t) (front_section t) w h.1.2.0.0.0 k, h.1.2.0.0.1), h.1.2.0.1), h.1.2.1)))

  -- the same dimensions, nodes and cells
  pub same_dimensions : dimensions (member_with t w) ≡ dimensions t
  same_dimensions = refl

  pub same_axes : axes_section (member_with t w) ≡ axes_section t
  same_axes = refl

  pub same_cells : cells (member_with t w) ≡ cells t
  same_cells = refl

  -- as demanded exactly when the member is
  pub same_demanded : AsDemanded (member_with t w) ↔ AsDemanded t
  same_demanded = (
    λ a. record { leaves = a.leaves; counts = a.counts; entries = a.entries; inside = a.inside },
    λ a. record { leaves = a.leaves; counts = a.counts; entries = a.entries; inside = a.inside },
  )

  -- where the dimensions and the cells start is moved by the difference of the lengths
  pub dimensions_moved : dimensions_at (member_with t w) + size (Sections (version t)) (own_sections t) ≡ dimensions_at t + size (Sections (version t)) w
  dimensions_moved = omega (arith, front_moved (version t) (front_section t) w)

  pub cells_moved : cells_start (member_with t w) + size (Sections (version t)) (own_sections t) ≡ cells_start t + size (Sections (version t)) w
  cells_moved =
      let v = version t in
      let parts = size_three (Front v) (Dimensions v) Axes in
      omega (arith, front_moved v (front_section t) w, parts (front_section t) (dimensions_section t) (axes_section t), parts (front_with v (front_section t) w) (dimensions_section t) (axes_section t))

-- a derivation of a member, and a derivation of the two sections: together one of the bytes before, the sections, and the bytes behind, where
-- the size allows
pub derivation_with : {bs : List ℕ} (d : MemberDerivation bs) (w : Tree (Sections (version d.tree))) → Valid (Sections (version d.tree)) w
    → let xs = bytes_before d.tree ++ (spell (Sections (version d.tree)) w ++ bytes_behind d.tree d.ends) in length xs ≤ member_bytes → MemberDerivation xs
derivation_with d w k l = record {
  tree = member_with d.tree w;
  ends = d.ends;
  valid = valid_with d.tree w d.valid k;
  spells = spelt_with d.tree w d.ends;
  short = l;
  few_nodes = d.few_nodes;
  few_places = d.few_places;
}
