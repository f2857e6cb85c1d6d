-- What is read in bytes fits.
use Rattle.std.specs.Prelude.{◌≡◌, refl, List, ℕ, ◌^◌, ◌<◌, drop, get_or}
use Rattle.std.specs.Int.{w8}
use Rattle.std.proofs.Common.{Fits}
use Rattle.layout.specs.Step.{Step}
use Rattle.std.specs.Prelude.{Ok, Err}
use Rattle.grammar.specs.Layout.{Order, any_number, empty, number, Bytes}
use Rattle.grammar.specs.Laws.Layout.Read.{Got, got, no, read_number}
use Rattle.grammar.specs.Laws.Layout as laws
use Rattle.layout.specs.Reads.{number_of, peek}
use Rattle.layout.specs.Steps.Slices.{bytes_of, drop_bytes}
use Rattle.grammar.specs.Laws.Layout.Digits.{pow_pos}
use Rattle.grammar.specs.Laws.Layout.Spelt.{whole}

-- a number that was read has its bytes
pub peek_lt : (o : Order) (w : ℕ) (s : List ℕ) → Bytes s → (st : Step) → peek o w s st < 256 ^ w
unfolding peek
peek_lt o w s bs (Err (n, p)) = pow_pos w
peek_lt o w s bs (Ok at) = go (read_number o w (drop at s) at) refl
  where
    go : (x : Got ℕ) → read_number o w (drop at s) at ≡ x → number_of x < 256 ^ w
    go (got n r p) e = (laws.sound (number o w any_number (λ _. empty)) (drop at s) (drop_bytes at bs) at (n, tt) r p (whole o w (drop at s) at n r p e)).0.0
    go (no n p) e = pow_pos w

-- the same of the elements of a slice
pub peek_fits : (o : Order) (w : ℕ) (s : List ℕ) → ((i : ℕ) → Fits w8 (get_or s i 0)) → (st : Step) {v : ℕ} → v ≡ peek o w s st → v < 256 ^ w
peek_fits o w s h st e = rw e (peek_lt o w s (bytes_of s h) st)
