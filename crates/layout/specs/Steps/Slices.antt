-- The elements of a slice of bytes are bytes.
use Rattle.std.specs.Prelude.{List, [], ◌∷◌, ℕ, zero, suc, take, drop, get_or}
use Rattle.std.specs.Int.{w8}
use Rattle.std.proofs.Common.{Fits}
use Rattle.grammar.specs.Layout.{Bytes, no_bytes, byte}

-- what is known of each element of a slice
pub bytes_of : (s : List ℕ) → ((i : ℕ) → Fits w8 (get_or s i 0)) → Bytes s
bytes_of [] h = no_bytes
bytes_of (b ∷ bs) h = byte (h 0).fits (bytes_of bs (λ i. h (suc i)))

pub drop_bytes : (n : ℕ) {s : List ℕ} → Bytes s → Bytes (drop n s)
drop_bytes zero b = b
drop_bytes (suc n) no_bytes = no_bytes
drop_bytes (suc n) (byte h hs) = drop_bytes n hs

pub take_bytes : (n : ℕ) {s : List ℕ} → Bytes s → Bytes (take n s)
take_bytes zero h = no_bytes
take_bytes (suc n) no_bytes = no_bytes
take_bytes (suc n) (byte h hs) = byte h (take_bytes n hs)
