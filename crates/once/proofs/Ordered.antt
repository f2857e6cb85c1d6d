-- The leaf indexes seen so far are all below the next.
use mathlib.Core.Path.{◌≡◌, sym}
use mathlib.Core.Bool.{true}
use mathlib.Core.List.{List}
use Prim.Native.Nat.{ℕ, ◌+◌, ◌<◌}
use native.Mathlib.Omega.{arith}
use borrow.Author.Tests.{lt-ltb}
use Rattle.grammar.specs.Layout.{all_none, all_more}
use Rattle.grammar.specs.RecordWords.{is_leaf, leaf}
use Rattle.grammar.specs.Once.{fresh}
use Rattle.once.specs.Laws.Marks.{Below, not_among, higher}
use Rattle.once.proofs.Walk.{Walking, at_start, fresh_leaf}

abbrev pub Ordered : List ℕ → ℕ → ℕ → ℕ → ℕ → ℕ → ℕ → Type 0
Ordered ws n first k next i e = Walking (λ seen. Below next seen) ws n first k i e

pub none_seen : (ws : List ℕ) (n first k : ℕ) → Ordered ws n first k 0 first (first + k)
none_seen ws n first k = at_start all_none

pub past_leaf : {ws : List ℕ} {n first k next i e : ℕ} (w : Ordered ws n first k next i e) → i < e → is_leaf ws i ≡ true
    → (leaf ws i).0 ≡ next → next < n → Ordered ws n first k (next + 1) (i + 1) e
unfolding fresh
past_leaf {n = n} {next = next} w h l q b =
    fresh_leaf w h l next (sym q) (rw (lt-ltb next n b, not_among next next w.known (omega arith)))
    (all_more {x = next} (omega arith) (higher (omega arith) w.known))
