-- The definitions compute.
use Rattle.std.specs.Prelude.{◌≡◌, refl, List, [], ◌∷◌, ℕ}
use Rattle.sizes.specs.Basics.{pick}
use Rattle.convert.specs.Table.{entries}
use Rattle.convert.specs.Pages.{page, listed, code_point, position, byte}
use Rattle.convert.specs.Utf8.{scalar, encode, continuation, shortest, row_two, row_three, row_four, row, decode}
use Rattle.convert.specs.Convert.{encoded, to, decoded, from, valid_up_to, output, Outcome, refused, written, outcome, converted}

-- UTF-8 of Unicode's example in table 3-5: 004D, 0430, 4E8C, 10302
encodes : (◌≡◌ {A = List ℕ} (encode 77) (77 ∷ [])) × (◌≡◌ {A = List ℕ} (encode 1072) (208 ∷ 176 ∷ [])) × (◌≡◌ {A = List ℕ} (encode 20108) (228 ∷ 186 ∷ 140 ∷ []))
    × (◌≡◌ {A = List ℕ} (encode 66306) (240 ∷ 144 ∷ 140 ∷ 130 ∷ []))
unfolding encode pick
encodes = (refl, refl, refl, refl)

decodes : ◌≡◌ {A = ℕ} (decode (240 ∷ 144 ∷ 140 ∷ 130 ∷ [])) 66306
unfolding decode row row_two row_three row_four continuation shortest scalar pick
decodes = refl

To : ℕ → ℕ → List ℕ → Outcome → Type 0
To page room u o = converted to page room u ≡ o

From : ℕ → ℕ → List ℕ → Outcome → Type 0
From page room u o = converted from page room u ≡ o

-- A, the Polish L with a stroke, the euro sign, 0
to_1250 : To 1250 8 (65 ∷ 163 ∷ 128 ∷ 0 ∷ []) (written (65 ∷ 197 ∷ 129 ∷ 226 ∷ 130 ∷ 172 ∷ 0 ∷ []))
unfolding To converted outcome valid_up_to output to encoded encode code_point listed page entries pick
to_1250 = refl

from_1251 : From 1251 2 (65 ∷ 208 ∷ 150 ∷ []) (written (65 ∷ 198 ∷ []))
unfolding From converted outcome valid_up_to output from decoded decode row row_two row_three row_four continuation shortest scalar byte position encode page entries pick
from_1251 = refl

-- no entry; 25 before 15; output short; unknown page
refusals : (To 1252 0 (65 ∷ 129 ∷ []) (refused 25 1)) × (To 1252 1 (255 ∷ []) (refused 15 0)) × (To 1253 9 (65 ∷ []) (refused 24 0)) × (To 1249 0 [] (refused 24 0))
unfolding To converted outcome valid_up_to output to encoded encode code_point listed page entries pick
refusals = (refl, refl, refl, refl)

-- `C4 41`; an overlong form of /; a surrogate; a truncated euro sign; 10302, which is in no page; a stray continuation byte; above 10FFFF
not_utf8 : (From 1252 9 (65 ∷ 196 ∷ 65 ∷ []) (refused 25 1)) × (From 1252 9 (192 ∷ 175 ∷ []) (refused 25 0)) × (From 1252 9 (237 ∷ 160 ∷ 128 ∷ []) (refused 25 0))
    × (From 1252 9 (65 ∷ 226 ∷ 130 ∷ []) (refused 25 1)) × (From 1252 9 (240 ∷ 144 ∷ 140 ∷ 130 ∷ []) (refused 25 0)) × (From 1252 9 (128 ∷ []) (refused 25 0))
    × (From 1252 9 (65 ∷ 65 ∷ 244 ∷ 144 ∷ 128 ∷ 128 ∷ []) (refused 25 2))
unfolding From converted outcome valid_up_to output from decoded decode row row_two row_three row_four continuation shortest scalar byte position encode page entries pick
not_utf8 = (refl, refl, refl, refl, refl, refl, refl)
