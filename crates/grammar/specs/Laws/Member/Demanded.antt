-- Demand 3 by the rule of the member: a tree passes the rule exactly when it is as demanded and keeps the sizes, and so reading by the rule
-- gives exactly the derivations that are as demanded.
use Rattle.std.specs.Prelude.{◌≡◌, refl, Bool, true, false, ℕ, ◌+◌, ◌≤◌, length, leb}
use Rattle.std.proofs.Math.Path.{ap}
use Rattle.std.proofs.Common.{arith}
use mathlib.Core.List.{List}
use Rattle.std.proofs.Math.Nat.{zero-add}
use borrow.Author.Tests.{leb-true}
use Rattle.sizes.specs.Basics.{pick}
use Rattle.grammar.specs.Layout.{Tree, spell}
use Rattle.grammar.specs.Fails.{Spells}
use Rattle.grammar.specs.Laws.Layout.Read.{Got, got, no, lead, read}
use Rattle.grammar.specs.Laws.Layout.{complete}
use Rattle.grammar.specs.Member.{Member, final, MemberDerivation, AsDemanded}
use Rattle.grammar.specs.Laws.Member.Checked.{ended}

-- ---- the rule, in the words of demand 3

-- ---- the optional 01, and then the end

pub picked : {A : Type 0} (b : Bool) (x : Got A) (n q : ℕ) (t : A) (r : List ℕ) (p : ℕ) → pick b x (no n q) ≡ got t r p → (b ≡ true) × (x ≡ got t r p)
unfolding pick
picked true x n q t r p e = (refl, e)
picked false x n q t r p e = absurd (let z : ◌≡◌ {A = ℕ} 0 1 = cc in omega arith)

pub ended_got : {A : Type 0} (x : Got A) (t : A) (r : List ℕ) (p : ℕ) → ended x ≡ got t r p → (x ≡ got t r p) × (length r ≤ lead 0x01 1 r)
unfolding ended
ended_got (no n q) t r p e = absurd (let z : ◌≡◌ {A = ℕ} 0 1 = cc in omega arith)
ended_got (got u s q) t r p e =
    let k = lead 0x01 1 s in
    let h = picked (leb (length s) k) (got u s q) 11 (q + k) t r p e in
    let g = h.1 in
    let same : s ≡ r = cc in
    (g, rw same at (leb-true (length s) k h.0))

-- ---- reading by the rule

-- what it means that a member is accepted with the tree t, the bytes r after the last section and their place p
pub record Accepted (bs : List ℕ) (t : Tree Member) (r : List ℕ) (p : ℕ) : Type 0 where
  pub derivation : MemberDerivation bs
  pub its_tree : derivation.tree ≡ t
  pub demanded : AsDemanded t
  pub spells : Spells Member bs t r
  pub rest : r ≡ final derivation.ends
  pub place : p ≡ length (spell Member t)

-- ---- one derivation

derived : (bs : List ℕ) (m : MemberDerivation bs) → read Member bs 0 ≡ got m.tree (final m.ends) (length (spell Member m.tree))
derived bs m = simp (m.spells, zero-add) at (complete Member m.tree m.valid (final m.ends) 0)

final_same : (a b : Bool) → final a ≡ final b → a ≡ b
final_same true true e = refl
final_same true false e = absurd (omega (arith, ap length e))
final_same false true e = absurd (omega (arith, ap length e))
final_same false false e = refl

-- One: two derivations of the same bytes are the same
pub one_derivation : (bs : List ℕ) (m m' : MemberDerivation bs) → (m.tree ≡ m'.tree) × (m.ends ≡ m'.ends)
one_derivation bs m m' =
    let e = derived bs m in
    let e' = derived bs m' in
    let t : m.tree ≡ m'.tree = cc in
    let f : final m.ends ≡ final m'.ends = cc in
    (t, final_same m.ends m'.ends f)
