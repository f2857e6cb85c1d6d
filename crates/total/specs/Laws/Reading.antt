-- A member that was read into lists of words with room for its records.
use Rattle.std.specs.Prelude.{◌≡◌, List, ◌++◌, ℕ, ◌*◌}
use Rattle.std.proofs.Math.Path.{refl}
use Rattle.std.proofs.Common.{sym, ap, ◌∙◌}
use Rattle.std.proofs.Math.ListN.{length, drop}
use Rattle.sizes.specs.Sizes.{node_words, cell_words}
use Rattle.grammar.specs.Layout.{Bytes, Tree}
use Rattle.grammar.specs.Laws.Layout.Read.{Got, got, no}
use Rattle.answer.specs.declared.Answer.{Answer}
use Rattle.grammar.specs.Member.{Member, nodes, cells, node_records, cell_records, MemberDerivation, AsDemanded}
use Rattle.grammar.specs.Laws.Member.Checked.{checked}
use Rattle.answer.specs.Answer.{refusal, accepted}
use Rattle.member.specs.Laws.IntoLists.{LongEnough, into_lists, Stored, all_stored, not_stored}
use Rattle.grammar.proofs.Laws.Member.Demanded as demanded
use Rattle.answer.proofs.Laws.Holds.{not_zero}
use Rattle.member.specs.Laws.Whole.{as_checked}

-- it was accepted with the answer a, and the lists begin with its records
pub record Taken (bs : List ℕ) (a : Answer) (node-list cell-list : List ℕ) : Type 0 where
  pub derivation : MemberDerivation bs
  pub demands : AsDemanded derivation.tree
  pub answer : a ≡ accepted derivation.tree
  pub other_nodes : List ℕ
  pub other_cells : List ℕ
  pub in_nodes : node-list ≡ node_records derivation.tree ++ other_nodes
  pub in_cells : cell-list ≡ cell_records derivation.tree ++ other_cells

module _ {bs : List ℕ} (b : Bytes bs) {N C : List ℕ} {a : Answer} {N' C' : List ℕ} (room : LongEnough bs 0 (length N) (length C)) (x : Stored N C (into_lists bs (length N) (length C)) a N' C') where
  as_read : Stored N C (checked bs) a N' C'
  as_read = rw (as_checked bs room) at x

  pub taken : a.refusal ≡ 0 → Taken bs a N' C'
  unfolding refusal
  taken e = go (checked bs) refl as_read
    where
      go : (y : Got (Tree Member)) → checked bs ≡ y → Stored N C y a N' C' → Taken bs a N' C'
      go (no n p) f (not_stored g _ _) = absurd (not_zero bs b f (sym (ap (λ (z : Answer). z.refusal) g) ∙ e))
      go (got t r p) f (all_stored g h k) =
          let y = demanded.accepted bs b t r p f in
          record {
            derivation = y.derivation;
            demands = rw y.its_tree y.demanded;
            answer = rw y.its_tree g;
            other_nodes = drop (node_words * nodes t) N;
            other_cells = drop (cell_words * length (cells t)) C;
            in_nodes = rw y.its_tree h;
            in_cells = rw y.its_tree k;
          }

  -- it was refused
  pub turned_down : (a.refusal ≡ 0 → ⊥) → checked bs ≡ no a.refusal a.place
  unfolding refusal accepted
  turned_down h = go (checked bs) refl as_read
    where
      go : (y : Got (Tree Member)) → checked bs ≡ y → Stored N C y a N' C' → checked bs ≡ no a.refusal a.place
      go (no n p) f (not_stored g _ _) = f ∙ rw g
      go (got t r p) f (all_stored g _ _) = absurd (h (ap (λ (z : Answer). z.refusal) g))
