-- "the four lengths in document 01 become 674, 713, 2,778 and 3,160 bytes" (document 02, T-02): four files of these lengths, written out by 002's
-- productions, and each read to its end. In the shortest no separator is drawn and every name is empty; in the longest all are drawn and every
-- name has 255 bytes.
use Rattle.std.specs.Prelude.{◌≡◌, refl, Bool, true, false, List, [], ◌∷◌, ◌++◌, map, ℕ, zero, suc, length, replicate}
use Rattle.sizes.specs.Basics.{pick, le, undigit, among}
use Rattle.grammar.specs.Layout.{passes, suits, undigits}
use Rattle.grammar.specs.Laws.Layout.Read.{Got, got, no, bind, read_number, read_counted, read_times, read, refusal}
use Rattle.look.specs.Look.{TableLook, PTTable_look_name, PVSeparator_style_name, PVCell_style_name, PVText_style_name}

-- a class name after its length, as each of the first four sections begins
unfoldable begin : List ℕ → List ℕ
begin letters = 0xff ∷ 0xff ∷ 0 ∷ 0 ∷ (le 2 (length letters) ++ letters)

unfoldable many : ℕ → List ℕ → List ℕ
many zero bytes = []
many (suc n) bytes = bytes ++ many n bytes

module _ (long : Bool) where
  unfoldable separator : List ℕ
  separator = pick long (1 ∷ 0 ∷ replicate 8 0) (0 ∷ 0 ∷ [])

  unfoldable name : List ℕ
  name = pick long (255 ∷ replicate 255 0x41) (0 ∷ [])

  unfoldable color : List ℕ
  color = 0 ∷ 1 ∷ 0 ∷ replicate 10 0

  unfoldable style : List ℕ
  style = replicate 14 0 ++ (0 ∷ 0 ∷ 1 ∷ 0 ∷ replicate 20 0) ++ replicate 8 0 ++ name ++ replicate 6 0

  unfoldable area : List ℕ
  area = 6 ∷ 0x80 ∷ (color ++ (8 ∷ 0x80 ∷ 0 ∷ style))

  -- a look of that version, with V2Styles where it has them
  pub look_file : ℕ → List ℕ → List ℕ
  look_file version v2 =
      begin PTTable_look_name ++ (version ∷ replicate 8 0 ++ (54 ∷ 0 ∷ 0 ∷ 0 ∷ 18 ∷ 0 ∷ 0 ∷ 0 ∷ []))
      ++ (begin PVSeparator_style_name ++ (0 ∷ many 4 separator) ++ (3 ∷ 0x80 ∷ 0 ∷ many 4 separator))
      ++ (begin PVCell_style_name ++ color) ++ (begin PVText_style_name ++ (0 ∷ style) ++ many 7 area) ++ v2

  pub v2_styles : List ℕ
  v2_styles = many 11 separator ++ name ++ replicate 16 0

-- where a reading ends that takes all bytes; 0 for any other
abbrev whole : {A : Type 0} → Got A → ℕ
whole (got t [] p) = p
whole (got t (b ∷ bs) p) = 0
whole (no n p) = 0

pub four_lengths : map (λ (file : List ℕ). whole (read TableLook file 0))
    (look_file false 0 [] ∷ look_file false 2 (v2_styles false) ∷ look_file true 0 [] ∷ look_file true 2 (v2_styles true) ∷ [])
    ≡ 674 ∷ 713 ∷ 2778 ∷ 3160 ∷ []
unfolding begin many separator name color style area look_file v2_styles PTTable_look_name PVSeparator_style_name PVCell_style_name PVText_style_name read bind read_number read_counted read_times passes suits among refusal undigits undigit pick le
four_lengths = refl
