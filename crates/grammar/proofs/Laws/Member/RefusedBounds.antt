-- Of every refusal of a member: its number is one of 1 to 11 or 18, and its place is in the member or right after its last byte.
use Rattle.std.specs.Prelude.{◌≡◌, refl, true, List, [], ◌∷◌, ℕ, ◌≤◌, length}
use Rattle.std.proofs.Common.{arith, length-append}
use Rattle.std.proofs.lemmas.List.{length-replicate}
use Rattle.sizes.specs.Basics.{among}
use Rattle.grammar.specs.Layout.{Content, any_bytes, no_zero}
use Rattle.grammar.specs.Laws.Layout.{breaks_among}
use Rattle.grammar.proofs.Laws.Layout.{break_inside}
use Rattle.grammar.specs.Laws.Layout.Uses.{more_contents}
use Rattle.grammar.specs.Laws.Layout.Bounds.{all_among, is_among, content_gives, TestsGive, Numbered, PlacesInside}
use Rattle.grammar.specs.Laws.Layout.Strings.{strict}
use Rattle.grammar.specs.Laws.Table.RuleBounds.{numbers, dimensions_numbered, axes_numbered, cells_numbered, axes_inside, cells_inside}
use Rattle.grammar.proofs.Laws.Table.RuleBounds.{dimensions_inside}
use Rattle.grammar.specs.Member.{Member}
use Rattle.grammar.specs.Refused.{body_rule, member_rule, Refused, too_long, inside, left}
use Rattle.grammar.specs.Laws.Member.MemberUses as member-uses
use Rattle.grammar.specs.Records.{dims_of}

member_numbered : Numbered numbers member_rule
unfolding member_rule body_rule
member_numbered = (tt, λ _ v. (((tt, λ _. dimensions_numbered v), λ t. axes_numbered v (dims_of v t.1)), λ t. cells_numbered v _))

member_inside : PlacesInside member_rule
unfolding member_rule body_rule
member_inside = (tt, λ _ v. (((tt, λ _. dimensions_inside v), λ t. axes_inside v (dims_of v t.1)), λ t. cells_inside v _))

-- 1 for the length, 11 for bytes left; 18 for a zero byte; 12 and 13 tell of the lent areas, 14 to 16 of looks
abbrev pub member_numbers : List ℕ
member_numbers = 1 ∷ 2 ∷ 3 ∷ 4 ∷ 5 ∷ 6 ∷ 7 ∷ 8 ∷ 9 ∷ 10 ∷ 11 ∷ 18 ∷ []

member_gives : TestsGive numbers Member
unfolding content_gives among
member_gives = more_contents go member-uses.member
  where
    go : (c : Content) → strict c ≡ true → content_gives numbers c ≡ true
    go any_bytes e = refl
    go no_zero e = refl

pub number_among : {bs : List ℕ} {n p : ℕ} → Refused bs n p → among n member_numbers ≡ true
unfolding among all_among
number_among (too_long l) = refl
number_among (inside {n} l b) = is_among n numbers member_numbers (breaks_among numbers refl member_gives member_numbered b) refl
number_among (left l v k r) = refl

pub place_inside : {bs : List ℕ} {n p : ℕ} → Refused bs n p → p ≤ length bs
place_inside (too_long l) = omega arith
place_inside (inside l b) = omega (arith, break_inside member_inside b)
place_inside (left l v k r) = rw (v.split, length-append, r.split, length-append, length-replicate) (omega arith)
