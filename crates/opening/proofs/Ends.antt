-- The end of a member, by what stands after its last section.
use Rattle.std.proofs.Common.{◌≡◌, ℕ, ◌+◌, ◌<◌, ◌≤◌, List, length, drop, Ok, Err, le-leb}
use Rattle.std.proofs.lemmas.Bool.{lt-leb}
use Rattle.sizes.specs.Basics.{pick}
use Rattle.grammar.specs.Laws.Layout.Read.{lead}
use Rattle.opening.specs.Laws.Ends.{end_at, end_is}

module _ (s : List ℕ) (at : ℕ) {p : ℕ} (e : p ≡ at + lead 0x01 1 (drop at s)) where
  pub end_yes : length s ≤ p → Ok at ≡ end_at s at
  unfolding pick
  end_yes h = rw (end_is s at, ← e, le-leb _ _ h)

  pub end_no : p < length s → Err (11, p) ≡ end_at s at
  unfolding pick
  end_no h = rw (end_is s at, ← e, lt-leb _ _ h)
