-- A range of a slice, or no bytes where it does not lie inside.
use Rattle.std.proofs.Common.{◌≡◌, refl, sym, ◌∙◌, ℕ, ◌+◌, ◌<◌, ◌≤◌, List, [], length, Ok, Bor, ◌⊎◌, inl, inr, leb, Bool, true, false}
use borrow.Author.Tests.{le-leb, lt-leb}
use Rattle.std.specs.Prelude.{Option, Some, None}
use Rattle.std.specs.Option.{MatchOption, unwrap_or}
use Rattle.std.specs.List.{slice_range}
use Rattle.sizes.specs.Basics.{pick}
use Rattle.layout.specs.Reads.{bytes}

none : (c : Bool) → ◌≡◌ {A = List ℕ} (pick c [] []) []
unfolding pick
none true = refl
none false = refl

pub range_or : (s : List ℕ) (b e : ℕ) (o : Option (Bor (List ℕ))) (d : Bor (List ℕ)) → d.now ≡ []
    → MatchOption o ((e < b) ⊎ (length s < e)) (λ x. (b ≤ e) × (e ≤ length s) × (x.now ≡ slice_range s b e) × (length x.now + b ≡ e))
    → (unwrap_or o d).now ≡ bytes s (Ok (b, e))
unfolding bytes pick
range_or s b e (Some x) d n h = rw (le-leb b e h.0, le-leb e (length s) h.1) h.2
range_or s b e None d n (inl l) = rw (lt-leb b e l) n
range_or s b e None d n (inr l) = rw (lt-leb e (length s) l) (n ∙ sym (none (leb b e)))
