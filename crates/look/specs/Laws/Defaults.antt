-- 002's defaults as bytes.
use Rattle.std.specs.Prelude.{◌≡◌, refl, List, [], ◌∷◌, ◌++◌, ℕ}
use Rattle.sizes.specs.Basics.{le}
use Rattle.grammar.specs.Layout.{Tree, digits, spell_all, spell}
use Rattle.store.specs.Fields.{text_of, resolve_all, resolve}
use Rattle.look.specs.Look as grammar
use Rattle.look.specs.Values as values
use Rattle.look.specs.Answers.{defaults}

-- V2Styles where it is absent
unfoldable pub default_tree : Tree grammar.V2Styles
default_tree = resolve grammar.V2Styles [] (values.v2_styles defaults)

-- "inner frame drawn solid (style 0, width 1, color 0), the other V2 borders not drawn, "(Cont.)" as continuation, column widths 36 and 72, row
-- heights 36 and 120" (document 02, T-10), as bytes of V2Styles
unfoldable pub default_bytes : List ℕ
default_bytes =
    no_line ++ (a_line ++ (a_line ++ (a_line ++ (a_line ++ (no_line ++ (no_line ++ (no_line ++ (no_line ++ (no_line ++ (no_line
    ++ (0x07 ∷ 0x28 ∷ 0x43 ∷ 0x6f ∷ 0x6e ∷ 0x74 ∷ 0x2e ∷ 0x29 ∷ []) ++ (36 ∷ 0 ∷ 0 ∷ 0 ∷ 72 ∷ 0 ∷ 0 ∷ 0 ∷ 36 ∷ 0 ∷ 0 ∷ 0 ∷ 120 ∷ 0 ∷ 0 ∷ 0 ∷ [])))))))))))
  where
    no_line : List ℕ
    no_line = 0 ∷ 0 ∷ []

    a_line : List ℕ
    a_line = 1 ∷ 0 ∷ 0 ∷ 0 ∷ 0 ∷ 0 ∷ 0 ∷ 0 ∷ 1 ∷ 0 ∷ []

-- they are those
pub default_spells : spell grammar.V2Styles default_tree ≡ default_bytes
unfolding spell spell_all digits le default_tree resolve resolve_all text_of values.default_continuation default_bytes
default_spells = refl
