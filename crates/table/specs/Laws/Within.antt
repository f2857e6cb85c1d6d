-- What a reader below `read_member` is never asked, and refuses: more bytes than a member has, so that every place is a word; and a list
-- that is too short for the records which the bytes from a place on can hold.
use Rattle.std.specs.Prelude.{◌≡◌, List, ℕ, ◌+◌, ◌-◌, ◌*◌, ◌/◌, ◌≤◌, ◌<◌, min, length, leb}
use Rattle.std.proofs.Common.{arith}
use borrow.Author.Tests.{le-leb, lt-leb}
use Rattle.sizes.specs.Sizes.{member_bytes}
use Rattle.sizes.specs.Basics.{pick}
use Rattle.grammar.specs.Laws.Layout.Read.{Got, no}

-- records of so many words, of which each takes so many bytes or more and a member has at most so many, and the refusal of a list that is
-- too short
pub record RecordSizes : Type 0 where
  pub width : ℕ
  pub least : ℕ
  pub most : ℕ
  pub number : ℕ

-- how many words the records of n bytes have at most
abbrev pub needed : RecordSizes → ℕ → ℕ
needed r n = r.width * min (n / r.least) r.most

-- a list of n words, with the records of `used` of them, holds those of all that the bytes of s from the place `at` on can have too
pub record Room (r : RecordSizes) (n used at : ℕ) (s : List ℕ) : Type 0 where
  pub enough : (u : ℕ) → u ≤ r.most → at + r.least * u ≤ length s + r.least * used → r.width * u ≤ n

-- it has room after more of them, which took as many bytes or more
pub room_after : (r : RecordSizes) {n used used' at at' : ℕ} {s : List ℕ} → at + r.least * used' ≤ at' + r.least * used → Room r n used at s → Room r n used' at' s
room_after r h room = record { enough = λ u few k. room.enough u few (omega (arith, h, k)) }

-- What is known of scratch words after a call: their number. They are lists of the reader of members, and no area that a caller of it lent;
-- after a refusal they may hold anything, and `read_member` copies nothing of them.
abbrev pub Scratch : List ℕ → List ℕ → Type 0
Scratch before after = length after ≡ length before

-- from the place `at` on, with room for so many words
unfoldable pub within : {A : Type 0} → RecordSizes → List ℕ → ℕ → ℕ → Got A → Got A
within r s at room y = pick (leb (length s) member_bytes) (pick (leb (needed r (length s - at)) room) y (no r.number 0)) (no 1 0)

module _ {A : Type 0} (r : RecordSizes) (s : List ℕ) (at room : ℕ) (y : Got A) where
  pub too_long : member_bytes < length s → within r s at room y ≡ no 1 0
  unfolding within pick
  too_long h = rw (lt-leb (length s) member_bytes h)

  pub too_short : length s ≤ member_bytes → room < needed r (length s - at) → within r s at room y ≡ no r.number 0
  unfolding within pick
  too_short h k = rw (le-leb (length s) member_bytes h, lt-leb (needed r (length s - at)) room k)

  pub is_within : length s ≤ member_bytes → needed r (length s - at) ≤ room → within r s at room y ≡ y
  unfolding within pick
  is_within h k = rw (le-leb (length s) member_bytes h, le-leb (needed r (length s - at)) room k)
