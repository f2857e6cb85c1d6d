-- Converting a text, either way: from its front, character by character, up to the first that is refused.
use Rattle.std.specs.Prelude.{◌≡◌, Bool, true, false, List, [], ◌∷◌, ◌++◌, ℕ, zero, suc, ◌-◌, ◌<◌, ltb, length, get_or, drop}
use Rattle.sizes.specs.Basics.{pick}
use Rattle.convert.specs.Pages.{first_page, page_count, no_code_point, no_byte, code_point, byte}
use Rattle.convert.specs.Utf8.{encode, decode}

-- ---- the text v in page k is the UTF-8 text u: each byte's code point, encoded. Both directions are held to it (proofs/Laws/SameText.antt)

pub data SameText (k : ℕ) : List ℕ → List ℕ → Type 0 where
  empty : SameText k [] []
  more : {b c : ℕ} {v u : List ℕ} → code_point k b ≡ c → c < no_code_point → SameText k v u → SameText k (b ∷ v) (encode c ++ u)

-- ---- what one character becomes

-- at the front of a text: no character that can be converted; or one of n bytes beside its first, and what is written for it
pub data Step : Type 0 where
  invalid : Step
  converts : ℕ → List ℕ → Step

unfoldable pub encoded : ℕ → Step
encoded c = pick (ltb c no_code_point) (converts 0 (encode c)) invalid

-- a byte of page k to UTF-8
unfoldable pub to : ℕ → List ℕ → Step
to k u = encoded (code_point k (get_or u 0 0))

unfoldable pub decoded : ℕ → ℕ → Step
decoded c b = pick (ltb b no_byte) (converts (length (encode c) - 1) (b ∷ [])) invalid

-- a character of UTF-8 to page k
unfoldable pub from : ℕ → List ℕ → Step
from k u = decoded (decode u) (byte k (decode u))

-- one of the two directions
unfoldable pub way : Bool → ℕ → List ℕ → Step
way true = from
way false = to

-- ---- what a text becomes

-- the place of the first character that is refused, or the text's end: s bytes at the front belong to a character passed, p is the place
unfoldable pub valid_up_to : (List ℕ → Step) → ℕ → ℕ → List ℕ → ℕ
valid_up_to f s p [] = p
valid_up_to f zero p (a ∷ u) = elim (f (a ∷ u)) [ invalid ↦ p | converts n o ↦ valid_up_to f n (suc p) u ]
valid_up_to f (suc s) p (a ∷ u) = valid_up_to f s (suc p) u

-- what is written for the characters before that
unfoldable pub output : (List ℕ → Step) → ℕ → List ℕ → List ℕ
output f s [] = []
output f zero (a ∷ u) = elim (f (a ∷ u)) [ invalid ↦ [] | converts n o ↦ o ++ output f n u ]
output f (suc s) (a ∷ u) = output f s u

-- ---- the answer

-- document 02, T-08: "24 at place 0 for an unknown page"
abbrev pub unknown_page : ℕ
unknown_page = 24

-- "25 at the first byte without an entry, or at the first byte of the first character that has none or isn't UTF-8 in its shortest form"
abbrev pub no_character : ℕ
no_character = 25

-- "15 at place 0 if the output is short"
abbrev pub output_short : ℕ
output_short = 15

pub data Outcome : Type 0 where
  refused : ℕ → ℕ → Outcome
  written : List ℕ → Outcome

-- "Refusals, in this order": 25 is looked for over the whole text before 15
unfoldable pub outcome : (List ℕ → Step) → ℕ → List ℕ → Outcome
outcome f room u =
    pick (ltb (valid_up_to f 0 0 u) (length u)) (refused no_character (valid_up_to f 0 0 u))
    (pick (ltb room (length (output f 0 u))) (refused output_short 0) (written (output f 0 u)))

-- "Refusals, in this order"; `room` is the length of the output
unfoldable pub converted : (ℕ → List ℕ → Step) → ℕ → ℕ → List ℕ → Outcome
converted f page room u =
    pick (ltb page first_page) (refused unknown_page 0)
    (pick (ltb (page - first_page) page_count) (outcome (f (page - first_page)) room u) (refused unknown_page 0))

-- what the output then holds: "output beyond it stays", "Nothing is written with any of them"
unfoldable pub after : Outcome → List ℕ → List ℕ
after (refused n p) out = out
after (written v) out = v ++ drop (length v) out
