-- The sums that the code makes, over the words of the records, are those of the derivation.
use Rattle.std.specs.Prelude.{◌≡◌, refl, List, [], ◌∷◌, ◌++◌, ℕ, zero, suc, ◌*◌, ◌≤◌, ◌<◌, length, drop}
use Rattle.std.proofs.Common.{zero-mul, mul-zero, suc-mul, arith}
use Rattle.grammar.specs.Layout.{Tree, All, all_none, all_more}
use Rattle.grammar.specs.Index.{product}
use Rattle.grammar.specs.Member.{Member, version, cells, cells_start, final, ns, places, cell_records, MemberDerivation, AsDemanded}
use Rattle.grammar.specs.Laws.Member.RecordsSpelt.{cells_there}
use Rattle.contents.specs.Members.{part_read}
use Rattle.total.specs.Total.{sums, member_cells, under, leaf_sums}
use Rattle.total.specs.Laws.Words.{records_say, under_by}
use Rattle.total.specs.Laws.MemberCells.{records_say_lem}
use Rattle.total.specs.Laws.Under.{sums_same, under_agrees, all_say}

module _ {bs : List ℕ} (d : MemberDerivation bs) where
  -- the records say what the cells of the derivation say
  pub member_cells_lem : (rest : List ℕ) → records_say bs (version d.tree) (cell_records d.tree ++ rest) 0 (length (cells d.tree)) ≡ member_cells d.tree
  member_cells_lem rest = records_say_lem bs (version d.tree) (part_read d) [] 0 (cells_start d.tree) (final d.ends) rest refl (cells_there d) d.valid.1.2.1.2.1

-- ---- the products that the code computes

positive : (n p : ℕ) → 0 < n * p → (0 < n) × (0 < p)
positive zero p h = absurd (let e : 0 * p ≡ 0 = zero-mul p in omega arith)
positive (suc n) zero h = absurd (let e : suc n * 0 ≡ 0 = mul-zero (suc n) in omega arith)
positive (suc n) (suc p) h = (omega arith, omega arith)

grows : (n p : ℕ) → 0 < n → p ≤ n * p
grows zero p h = absurd (omega arith)
grows (suc n) p h = omega (arith, suc-mul n p)

-- the n of the last dimensions multiply to no more than those of all, if no n is 0
pub later_product : (i : ℕ) (ns : List ℕ) → 0 < product ns → product (drop i ns) ≤ product ns
unfolding product
later_product zero ns h = omega arith
later_product (suc i) [] h = omega arith
later_product (suc i) (n ∷ ns) h = let p = positive n (product ns) h in omega (arith, later_product i ns p.1, grows n (product ns) p.0)

module _ (t : Tree Member) (a : AsDemanded t) (i leaf : ℕ) (there : i < length (ns t)) where
  -- a test that is the coordinate's below the product has the sums under the leaf
  pub leaf_sums_lem : (block step : ℕ) → (0 < places t → (block ≡ product (drop i (ns t))) × (step ≡ product (drop (suc i) (ns t))))
      → sums (under_by block step leaf) (member_cells t) ≡ leaf_sums t i leaf
  leaf_sums_lem block step e =
      sums_same (under_by block step leaf) (under t i leaf)
      (all_say (version t) (λ k. under_by block step leaf k ≡ under t i leaf k) (cells_start t) (cells t) (all_below a.inside.below))
    where
      below : (k : ℕ) → k < places t → under_by block step leaf k ≡ under t i leaf k
      below k h = let p = e (omega arith) in rw (p.0, p.1) (under_agrees (ns t) i leaf k h there)

      all_below : {ks : List ℕ} → All (λ k. k < places t) ks → All (λ k. under_by block step leaf k ≡ under t i leaf k) ks
      all_below all_none = all_none
      all_below (all_more {x = k} h hs) = all_more (below k h) (all_below hs)
