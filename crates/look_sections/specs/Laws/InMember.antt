-- Areas and Borders of a member in the place of its own: a derivation again, with the same dimensions, nodes and cells, whose places move by the
-- difference of the lengths.
use Rattle.std.specs.Prelude.{Bool, List, ◌++◌, ℕ}
use Rattle.grammar.specs.Layout.{little, Layout, ◌▸◌, Tree, digits, spell}
use Rattle.grammar.specs.Sections.{HeaderStart, HeaderRest, Titles, Footnotes, Areas, Borders, PrintSettings, TableSettings, Formats, Front}
use Rattle.grammar.specs.Table.{Dimensions, Axes, Cells}
use Rattle.grammar.specs.Member.{Member, version, front_section, dimensions_section, axes_section, cells_section, final}

-- the two sections, one after the other
abbrev pub Sections : ℕ → Layout
Sections v = Areas v ▸ Borders

-- ---- of what stands before the dimensions

module _ (v : ℕ) where
  -- what stands before the two, and what behind them
  abbrev pub Before : Layout
  Before = HeaderRest ▸ Titles v ▸ Footnotes v

  abbrev pub Behind : Layout
  Behind = PrintSettings ▸ TableSettings v ▸ Formats v

  unfoldable pub sections_in : Tree (Front v) → Tree (Sections v)
  unfolding Front
  sections_in f = (f.0.0.0.0.1, f.0.0.0.1)

  unfoldable pub front_with : Tree (Front v) → Tree (Sections v) → Tree (Front v)
  unfolding Front
  front_with f w = (((((f.0.0.0.0.0, w.0), w.1), f.0.0.1), f.0.1), f.1)

  unfoldable pub before_in : Tree (Front v) → List ℕ
  unfolding Front
  before_in f = spell Before f.0.0.0.0.0

  unfoldable pub behind_in : Tree (Front v) → List ℕ
  unfolding Front
  behind_in f = spell Behind ((f.0.0.1, f.0.1), f.1)

-- ---- of a whole member

-- its own Areas and Borders
abbrev pub own_sections : (t : Tree Member) → Tree (Sections (version t))
own_sections t = sections_in (version t) (front_section t)

-- the member with others in their place: all else is as it was
abbrev pub member_with : (t : Tree Member) → Tree (Sections (version t)) → Tree Member
member_with t w = (t.0, (version t, (((front_with (version t) (front_section t) w, dimensions_section t), axes_section t), cells_section t)))

-- the bytes before the two, and those behind them
unfoldable pub bytes_before : Tree Member → List ℕ
bytes_before t = spell HeaderStart t.0 ++ (digits little 4 (version t) ++ before_in (version t) (front_section t))

unfoldable pub bytes_behind : Tree Member → Bool → List ℕ
bytes_behind t ends =
    behind_in (version t) (front_section t)
    ++ (spell (Dimensions (version t)) (dimensions_section t) ++ (spell Axes (axes_section t) ++ (spell (Cells (version t)) (cells_section t) ++ final ends)))
