-- Positions by computation.
use Rattle.std.specs.Prelude.{◌≡◌, refl, [], ◌∷◌}
use Rattle.sizes.specs.Basics.{among, pick}
use Rattle.grammar.specs.RecordWords.{word}
use Rattle.grammar.specs.Once.{fresh}
use Rattle.grammar.specs.Index.{product, coordinate}
use Rattle.position.specs.Axes.{position_on, coordinate_on, coordinate_at, part, axes_of, pairs}
use Rattle.position.specs.Answers.{each_axis_once, too_large_answer, axes_match, refusal, along, at, no_position_answer, position, span_of, within, found, no_index_answer, index_of}

-- document 01's index 33 of n 3, 4, 5, with coordinates (1, 2, 3): no layers, the second dimension in rows, the other two in columns with the
-- third the inner one
pub ex_position : position (3 ∷ 4 ∷ 5 ∷ []) 0 1 2 (1 ∷ 2 ∷ 0 ∷ []) 33 ≡ at 0 2 8
unfolding position refusal too_large_answer axes_match each_axis_once fresh among word along position_on product part coordinate pick
ex_position = refl

pub ex_index : index_of (3 ∷ 4 ∷ 5 ∷ []) 0 1 2 (1 ∷ 2 ∷ 0 ∷ []) 0 2 8 ≡ found 33
unfolding index_of refusal too_large_answer axes_match each_axis_once fresh among word within span_of product part axes_of coordinate_at coordinate_on pairs pick
ex_index = refl

-- the same cell with all dimensions in layers, the first the inner one
pub ex_layers : position (3 ∷ 4 ∷ 5 ∷ []) 3 0 0 (0 ∷ 1 ∷ 2 ∷ []) 33 ≡ at 43 0 0
unfolding position refusal too_large_answer axes_match each_axis_once fresh among word along position_on product part coordinate pick
ex_layers = refl

-- 7 comes before 9, and 9 before 10; an n of 0 makes the product 0
pub ex_large : position (65536 ∷ 65536 ∷ []) 9 9 9 (5 ∷ []) 0 ≡ no_position_answer 7
unfolding position refusal too_large_answer word product pick
ex_large = refl

pub ex_order : position (65536 ∷ 65536 ∷ 0 ∷ []) 1 1 1 (2 ∷ 0 ∷ 2 ∷ []) 0 ≡ no_position_answer 9
unfolding position refusal too_large_answer axes_match each_axis_once fresh among word product pick
ex_order = refl

pub ex_long_order : position (2 ∷ []) 1 0 0 (0 ∷ 0 ∷ []) 0 ≡ no_position_answer 9
unfolding position refusal too_large_answer axes_match each_axis_once fresh among word product pick
ex_long_order = refl

pub ex_nothing : position (65536 ∷ 65536 ∷ 0 ∷ []) 1 1 1 (2 ∷ 0 ∷ 1 ∷ []) 0 ≡ no_position_answer 10
unfolding position refusal too_large_answer axes_match each_axis_once fresh among word product pick
ex_nothing = refl

-- no dimensions: one cell
pub ex_none : position [] 0 0 0 [] 0 ≡ at 0 0 0
unfolding position refusal too_large_answer axes_match each_axis_once word along position_on product part coordinate pick
ex_none = refl

pub ex_none_outside : position [] 0 0 0 [] 1 ≡ no_position_answer 10
unfolding position refusal too_large_answer axes_match each_axis_once word product pick
ex_none_outside = refl

pub ex_none_back : index_of [] 0 0 0 [] 0 0 0 ≡ found 0
unfolding index_of refusal too_large_answer axes_match each_axis_once word within span_of product part axes_of coordinate_at pairs pick
ex_none_back = refl

pub ex_none_column : index_of [] 0 0 0 [] 0 0 1 ≡ no_index_answer 10
unfolding index_of refusal too_large_answer axes_match each_axis_once word within span_of product part pick
ex_none_column = refl
