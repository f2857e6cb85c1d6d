-- Words stored one after the other.
use Rattle.std.proofs.Common.{◌≡◌, sym, ◌∙◌, ℕ, ◌+◌, ◌<◌, ◌≤◌, List, length, take, set, get_or, length-take-le, arith}
use Rattle.std.proofs.lemmas.List.{take_more}
use Rattle.std.proofs.Math.Seq.{length-sets}
use Rattle.std.proofs.lemmas.List.Edits.{sets}
use Rattle.grammar.specs.Laws.Table.Words.{set_past, sets_append}

-- the one at place k
pub next_set : (vs l : List ℕ) (i k : ℕ) → k < length vs → set (sets l i (take k vs)) (i + k) (get_or vs k 0) ≡ sets l i (take (k + 1) vs)
next_set vs l i k h =
    let n : length (take k vs) ≡ k = length-take-le k vs (omega arith) in
    rw (take_more vs k 0 h, sets_append, n)

-- past the end there is none
pub none_past : (vs l : List ℕ) (i k : ℕ) → k < length vs → length l ≤ i + k → sets l i (take k vs) ≡ sets l i (take (k + 1) vs)
none_past vs l i k h m =
    sym (set_past (sets l i (take k vs)) (i + k) (get_or vs k 0) (omega (arith, length-sets l i (take k vs)))) ∙ next_set vs l i k h
