-- Lists, members and shares by computation: what document 02's sentences come to at their edges. So a change of code and definitions together
-- does not prove any more.
use Rattle.std.specs.Prelude.{◌≡◌, refl, List, [], ◌∷◌, map, ℕ, ◌/◌, length, replicate}
use Rattle.sizes.specs.Basics.{pick, le, among}
use Rattle.grammar.specs.Layout.{Tree, spell, digits, spell_all, spell_fill, passes, suits}
use Rattle.grammar.specs.Laws.Layout.Read.{Got, got, no, lead, read, refusal}
use Rattle.grammar.specs.Laws.Layout.Check.{check}
use Rattle.grammar.specs.Sections.{HeaderStart}
use Rattle.grammar.specs.Member.{Member}
use Rattle.grammar.specs.Refused.{member_rule, body_rule}
use Rattle.grammar.specs.Laws.Member.Checked.{ended, checked}
use Rattle.members.specs.Members.{list_refusal, member_at, share_of, with_share, joined, cut}

-- the numbers of words of a list, and what it gets
pub lists : map (λ (words : ℕ). list_refusal (replicate words 0)) (0 ∷ 1 ∷ 2 ∷ 3 ∷ 127 ∷ 128 ∷ 129 ∷ 130 ∷ 131 ∷ []) ≡ 0 ∷ 26 ∷ 0 ∷ 26 ∷ 26 ∷ 0 ∷ 26 ∷ 26 ∷ 26 ∷ []
unfolding list_refusal pick
lists = refl

-- a refusal as two words
abbrev refused : Got (Tree Member) → List ℕ
refused (no n p) = n ∷ p ∷ []
refused (got t r p) = []

-- four bytes, 01 00 00 01: those from 0 on, from 1 on, from 3 on, and from the end on; none; then members that are not inside, one of them too long for a member
pub members_of_four : map (λ (list : List ℕ). refused (member_at (0x01 ∷ 0x00 ∷ 0x00 ∷ 0x01 ∷ []) list 0))
    ((0 ∷ 1 ∷ []) ∷ (1 ∷ 3 ∷ []) ∷ (3 ∷ 1 ∷ []) ∷ (4 ∷ 0 ∷ []) ∷ (2 ∷ 0 ∷ []) ∷ (5 ∷ 0 ∷ []) ∷ (0 ∷ 5 ∷ []) ∷ (4 ∷ 1 ∷ []) ∷ (4294967295 ∷ 4294967295 ∷ []) ∷ (0 ∷ 1048577 ∷ []) ∷ [])
    ≡ (2 ∷ 1 ∷ []) ∷ (3 ∷ 0 ∷ []) ∷ (2 ∷ 1 ∷ []) ∷ (2 ∷ 0 ∷ []) ∷ (2 ∷ 0 ∷ []) ∷ (2 ∷ 0 ∷ []) ∷ (2 ∷ 0 ∷ []) ∷ (2 ∷ 0 ∷ []) ∷ (2 ∷ 0 ∷ []) ∷ (2 ∷ 0 ∷ []) ∷ []
unfolding member_at checked ended check read passes suits among refusal pick lead spell digits le spell_all spell_fill member_rule body_rule HeaderStart
members_of_four = refl

-- an area of eight words, for three members
abbrev area : List ℕ
area = 10 ∷ 11 ∷ 12 ∷ 13 ∷ 14 ∷ 15 ∷ 16 ∷ 17 ∷ []

pub shares : map (λ (i : ℕ). share_of (length area / 3) i area) (0 ∷ 1 ∷ 2 ∷ []) ≡ (10 ∷ 11 ∷ []) ∷ (12 ∷ 13 ∷ []) ∷ (14 ∷ 15 ∷ []) ∷ []
unfolding share_of
shares = refl

pub second_share : with_share (length area / 3) 1 area (0 ∷ 1 ∷ []) ≡ 10 ∷ 11 ∷ 0 ∷ 1 ∷ 14 ∷ 15 ∷ 16 ∷ 17 ∷ []
unfolding with_share
second_share = refl

-- all three, and the remainder
pub all_shares : cut (length area / 3) 3 (λ (i : ℕ). i ∷ i ∷ []) area ≡ 0 ∷ 0 ∷ 1 ∷ 1 ∷ 2 ∷ 2 ∷ 16 ∷ 17 ∷ []
unfolding cut joined
all_shares = refl

-- no members: nothing is cut
pub no_shares : cut (length area / 0) 0 (λ (i : ℕ). i ∷ i ∷ []) area ≡ area
unfolding cut joined
no_shares = refl
