-- The tests on both sides of each bound, and where they stand, by computation: bytes that start at the place 100.
use Rattle.std.specs.Prelude.{◌≡◌, refl, true, false, List, [], ◌∷◌, ◌++◌, map, ℕ, replicate}
use Rattle.sizes.specs.Basics.{among, pick}
use Rattle.grammar.specs.Layout.{Layout, passes, suits}
use Rattle.grammar.specs.Rule.{Rule}
use Rattle.grammar.specs.Laws.Layout.Read.{read}
use Rattle.grammar.specs.Laws.Layout.Check.{check}
use Rattle.layout.specs.Step.{Step}
use Rattle.std.specs.Prelude.{Ok, Err}
use Rattle.layout.specs.Reads.{forget}
use Rattle.look_rules.specs.StyleRule.{listed, separator_rule, align_rule, alignment_rule, has_height, size_rule, name_rule}

-- 002's styles and widths
lines : map (λ (x : ℕ × ℕ). listed x.0 x.1) ((0, 0) ∷ (0, 3) ∷ (0, 4) ∷ (1, 0) ∷ (1, 1) ∷ (1, 2) ∷ (2, 0) ∷ (2, 65535) ∷ (3, 0) ∷ [])
    ≡ true ∷ true ∷ false ∷ true ∷ true ∷ false ∷ true ∷ true ∷ false ∷ []
unfolding listed pick
lines = refl

-- sizes 0, 2,147,483,647, -2,147,483,648, -1,000,001, -1,000,000 and -1
heights : map has_height (0 ∷ 0x7fffffff ∷ 0x80000000 ∷ 0xfff0bdbf ∷ 0xfff0bdc0 ∷ 0xffffffff ∷ []) ≡ false ∷ false ∷ false ∷ false ∷ true ∷ true ∷ []
unfolding has_height pick
heights = refl

said : {g : Layout} → Rule g → List ℕ → Step
said u bs = forget (check u bs 100)

-- 29 at the first byte of a separator that is drawn
drawn : ℕ → ℕ → List ℕ
drawn style width = 1 ∷ 0 ∷ 0 ∷ 0 ∷ 0 ∷ 0 ∷ style ∷ 0 ∷ width ∷ 0 ∷ []

separators : map (said separator_rule) (drawn 0 3 ∷ drawn 0 4 ∷ drawn 3 0 ∷ (0 ∷ 0 ∷ []) ∷ [])
    ≡ Ok 110 ∷ Err (29, 100) ∷ Err (29, 100) ∷ Ok 102 ∷ []
unfolding said drawn check separator_rule listed read passes among pick
separators = refl

-- 29 at valign before halign, each at its own place
aligned : ℕ → ℕ → List ℕ
aligned valign halign = valign ∷ 0 ∷ halign ∷ 0 ∷ replicate 12 0 ++ 1 ∷ 0 ∷ []

alignments : map (said alignment_rule) (aligned 2 4 ∷ aligned 2 5 ∷ aligned 3 4 ∷ aligned 3 5 ∷ [])
    ≡ Ok 118 ∷ Err (29, 102) ∷ Err (29, 100) ∷ Err (29, 100) ∷ []
unfolding said aligned check alignment_rule align_rule read passes pick
alignments = refl

-- 7 at the size
sizes : map (said size_rule) ((0xbf ∷ 0xbd ∷ 0xf0 ∷ 0xff ∷ []) ∷ (0xc0 ∷ 0xbd ∷ 0xf0 ∷ 0xff ∷ []) ∷ (12 ∷ 0 ∷ 0 ∷ 0 ∷ []) ∷ [])
    ≡ Err (7, 100) ∷ Ok 104 ∷ Err (7, 100) ∷ []
unfolding said check size_rule has_height read passes pick
sizes = refl

-- 18 at the length byte, wherever the zero byte is
names : map (said name_rule) ((0 ∷ []) ∷ (2 ∷ 65 ∷ 66 ∷ []) ∷ (2 ∷ 65 ∷ 0 ∷ []) ∷ (2 ∷ 0 ∷ 66 ∷ []) ∷ [])
    ≡ Ok 101 ∷ Ok 103 ∷ Err (18, 100) ∷ Err (18, 100) ∷ []
unfolding said check name_rule read suits among pick
names = refl
