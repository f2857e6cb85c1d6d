-- Which files get no sections, by which number, and where: document 02, T-12, over the file's bytes and the output's length. No reader and no
-- writer is in it; Laws/Exactly.antt says that `look_sections` refuses exactly so.
--
-- | No. | When | Place, in the look's file |
-- | | "the look's own" | as reading it gives (look/specs/Refused.antt) |
-- | 29 | "a drawn separator whose style and width, or .. an alignment, that 002 doesn't list" | its first byte |
-- | 7 | "a font size of 0 or above or with a height over 1,000,000" | the font size |
-- | 18 | "a font name with a zero byte" | "the length byte" |
-- | 15 | output too short | 0 |
use Rattle.std.specs.Prelude.{◌≡◌, List, ℕ, ◌≤◌, ◌<◌, length}
use Rattle.grammar.specs.Layout.{Derivation}
use Rattle.grammar.specs.Rule.{Kept, Breaks}
use Rattle.store.specs.Fields.{placed}
use Rattle.look.specs.declared.Look.{Look}
use Rattle.look.specs.Look.{TableLook}
use Rattle.look.specs.Values as values
use Rattle.look.specs.Answers.{look_of}
use Rattle.look.specs.Refused as look
use Rattle.look_rules.specs.StyleRule.{style_rule}
use Rattle.look_sections.specs.Writing.{sections}

-- the look that a derivation says
pub record LookOf {s : List ℕ} (d : Derivation TableLook s) : Type 0 where
  pub look : Look
  pub fields : values.fields look ≡ look_of (placed TableLook d.tree 0)

pub data Refused (s : List ℕ) (room : ℕ) : ℕ → ℕ → Type 0 where
  -- "the look's own", before all others: the look is read whole
  own : {n p : ℕ} → look.Refused s n p → Refused s room n p
  -- 29, 7 and 18, "in file order": the first test of the rule that does not hold
  style : {n p : ℕ} → Derivation TableLook s → Breaks TableLook style_rule s 0 n p → Refused s room n p
  -- "15 last"
  too_short : (d : Derivation TableLook s) (x : LookOf d) → Kept style_rule d.tree → room < length (sections x.look s) → Refused s room 15 0

-- what is not refused
pub record Allowed (s : List ℕ) (room : ℕ) : Type 0 where
  pub derived : Derivation TableLook s
  pub says : LookOf derived
  pub kept : Kept style_rule derived.tree
  pub fits : length (sections says.look s) ≤ room
