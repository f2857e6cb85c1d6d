-- A member that is accepted, by computation in the logic: 940 bytes, with a group, four leaves and two cells. So demand 3 holds of something:
-- these bytes have a derivation that is as demanded.
use Rattle.std.specs.Prelude.{◌≡◌, refl, Bool, true, ◌&&◌, List, [], ◌∷◌, ℕ, length, ltb}
use Rattle.std.proofs.Math.Bool.{and-eq-true_iff}
use Rattle.std.proofs.Common.{arith, ltb-true, subst, sym}
use Rattle.grammar.specs.Layout.{Tree, Bytes, no_bytes, byte}
use Rattle.grammar.specs.Laws.Layout.Read.{Got, got, no}
use Rattle.grammar.specs.Member.{Member, dimensions, nodes, cells}
use Rattle.grammar.specs.Refused.{RefusedWith, few_node_words}
use Rattle.grammar.specs.Laws.Member.Checked.{checked}
use Rattle.grammar.proofs.Laws.Member.Demanded.{accepted}
use Rattle.grammar.specs.Laws.Member.AcceptedExample.{member, accepted_with, to_line, computed, line, HasTable}

below256 : List ℕ → Bool
below256 [] = true
below256 (b ∷ bs) = ltb b 256 && below256 bs

are_bytes : (bs : List ℕ) → below256 bs ≡ true → Bytes bs
unfolding below256
are_bytes [] e = no_bytes
are_bytes (b ∷ bs) e = let q = (and-eq-true_iff (ltb b 256) (below256 bs)).0 e in byte (ltb-true b 256 q.0) (are_bytes bs q.1)

same_counts : (d n c d' n' c' : ℕ) → accepted_with d n c ≡ accepted_with d' n' c' → (d ≡ d') × (n ≡ n') × (c ≡ c')
same_counts d n c d' n' c' e = (cc, cc, cc)

-- Accepted: bytes that are read so have such a derivation
pub line_demanded : (bs : List ℕ) → Bytes bs → (d n c : ℕ) → to_line (checked bs) ≡ accepted_with d n c → HasTable bs d n c
unfolding to_line
line_demanded bs b d n c e = go (checked bs) refl e
  where
    go : (x : Got (Tree Member)) → checked bs ≡ x → to_line x ≡ accepted_with d n c → HasTable bs d n c
    go (no k p) f e = absurd (let z : ◌≡◌ {A = ℕ} 0 1 = cc in omega arith)
    go (got t r p) f e =
        let a = accepted bs b t r p f in
        let Counts : Tree Member → Type 0 = λ x. (length (dimensions x) ≡ d) × (nodes x ≡ n) × (length (cells x) ≡ c) in
        let s = same_counts (length (dimensions t)) (nodes t) (length (cells t)) d n c e in
        record { derivation = a.derivation; demanded = rw a.its_tree a.demanded; counts = subst Counts (sym a.its_tree) s }

-- Example: the bytes above have a derivation as demanded, with 2 dimensions, 5 nodes and 2 cells
pub member_demanded : HasTable member 2 5 2
unfolding member line computed below256
member_demanded = line_demanded member (are_bytes member refl) 2 5 2 refl

-- Example: 12 comes before 13 (document 01, "then 11, 12, 13"). It has 5 nodes and 2 cells, so 34 words are too few for its node records and 5 for those of its cells
pub both_too_short : RefusedWith member 34 5 12 0
both_too_short = few_node_words member_demanded.derivation member_demanded.demanded (omega (arith, member_demanded.counts.1))
