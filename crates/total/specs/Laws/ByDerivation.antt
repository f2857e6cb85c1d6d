-- What a call answers, by demand 3 and the derivation of the member.
use Rattle.std.specs.Prelude.{◌≡◌, Bool, true, false, List, eqb}
use Rattle.std.proofs.Math.Path.{refl}
use Rattle.std.proofs.Common.{◌∙◌}
use Prim.Native.Nat.{ℕ, ◌*◌}
use Rattle.std.proofs.Math.ListN.{length}
use borrow.Author.Tests.{le-leb, eq-eqb, ne_eqb}
use Rattle.sizes.specs.Sizes.{node_words, cell_words}
use Rattle.sizes.specs.Basics.{pick}
use Rattle.grammar.specs.Layout.{Bytes, Tree}
use Rattle.grammar.specs.Laws.Layout.Read.{Got, got, no}
use Rattle.answer.specs.declared.Answer.{Answer}
use Rattle.grammar.specs.Member.{Member, nodes, cells}
use Rattle.grammar.specs.Laws.Member.Checked.{checked}
use Rattle.answer.specs.Answer.{wide, long, refusal, accepted, answer_of, nodes_after, cells_after}
use Rattle.answer.specs.Demand3.{Demand3, Accepted}
use Rattle.answer.proofs.Laws.Holds.{demand3}
use Rattle.grammar.proofs.Laws.Member.Demanded.{derivation_checked}
use Rattle.total.specs.declared.LeafTotal.{LeafTotal}
use Rattle.total.specs.declared.DimensionTotals.{DimensionTotals}
use Rattle.total.specs.Answers.{member_first, refused, leaf_answer_of, total_answer, Totalled, ByDerivation, refused_all_answer, dimension_answer, totals_answer, totals_after, AllTotalled, AllByDerivation}

-- an area that is filled where n is 0
filled : (n : ℕ) (new old : List ℕ) {now : List ℕ} → now ≡ pick (eqb n 0) new old → n ≡ 0 → now ≡ new
unfolding pick
filled n new old e z = e ∙ rw (eq-eqb n 0 z)

kept : (n : ℕ) (new old : List ℕ) {now : List ℕ} → now ≡ pick (eqb n 0) new old → (n ≡ 0 → ⊥) → now ≡ old
unfolding pick
kept n new old e z = e ∙ rw (ne_eqb n 0 z)

module _ {bs : List ℕ} (b : Bytes bs) (N C : List ℕ) where
  abbrev reading : Answer
  reading = answer_of (checked bs) (length N) (length C)

  is_read : Demand3 bs N C reading (nodes_after (checked bs) N (length C)) (cells_after (checked bs) (length N) C)
  is_read = demand3 bs b N C (record { answer = refl; node_area = refl; cell_area = refl })

  -- where reading refuses, so does the call, with the refusal's number, place and counts
  same_refusal : {A : Type 0} (refusing : ℕ → ℕ → ℕ → ℕ → A) (said : Tree Member → A) (y : Got (Tree Member)) → let a = answer_of y (length N) (length C) in
      (a.refusal ≡ 0 → ⊥) → member_first refusing said y (length N) (length C) ≡ refusing a.refusal a.place a.nodes a.cells
  unfolding member_first answer_of refusal pick accepted
  same_refusal refusing said (no n p) h = refl
  same_refusal refusing said (got t r p) h = go (wide t (length N)) (long t (length C)) h
    where
      m : ℕ
      m = nodes t

      k : ℕ
      k = length (cells t)

      go : (v w : Bool) → let a = pick v (pick w (accepted t) (refusal 13 0 m k)) (refusal 12 0 m k) in
          (a.refusal ≡ 0 → ⊥) → pick v (pick w (said t) (refusing 13 0 m k)) (refusing 12 0 m k) ≡ refusing a.refusal a.place a.nodes a.cells
      go true true f = absurd (f refl)
      go true false f = refl
      go false w f = refl

  -- where it accepts, the call says what is said of the derivation
  of_accepted : {A : Type 0} (refusing : ℕ → ℕ → ℕ → ℕ → A) (said : Tree Member → A) (m : Accepted bs (length N) (length C))
      → member_first refusing said (checked bs) (length N) (length C) ≡ said m.derivation.tree
  unfolding member_first pick
  of_accepted refusing said m =
      let t = m.derivation.tree in
      rw (
        derivation_checked bs b m.derivation m.demanded,
        le-leb (node_words * nodes t) (length N) m.large.for_nodes,
        le-leb (cell_words * length (cells t)) (length C) m.large.for_cells,
      )

  module _ (dimension leaf : ℕ) where
    pub by_derivation : {r : LeafTotal} {N' C' : List ℕ} → Totalled bs N C dimension leaf r N' C' → ByDerivation bs N C dimension leaf r N' C'
    unfolding total_answer
    by_derivation {r} x =
        let said : Tree Member → LeafTotal = λ t. leaf_answer_of t dimension leaf in
        record {
          reading = reading;
          nodes_read = nodes_after (checked bs) N (length C);
          cells_read = cells_after (checked bs) (length N) C;
          is_read = is_read;
          of_refused = λ h. x.answer ∙ same_refusal refused said (checked bs) h;
          of_accepted = λ m. x.answer ∙ of_accepted refused said m;
          with_records = λ z. (filled r.refusal (nodes_after (checked bs) N (length C)) N x.node_area z, filled r.refusal (cells_after (checked bs) (length N) C) C x.cell_area z);
          unchanged = λ z. (kept r.refusal (nodes_after (checked bs) N (length C)) N x.node_area z, kept r.refusal (cells_after (checked bs) (length N) C) C x.cell_area z);
        }

  module _ (dimension : ℕ) (T : List ℕ) where
    pub all_by_derivation : {r : DimensionTotals} {T' N' C' : List ℕ} → AllTotalled bs T N C dimension r T' N' C' → AllByDerivation bs T N C dimension r T' N' C'
    unfolding totals_answer totals_after
    all_by_derivation {r} x =
        let refusing : ℕ → ℕ → ℕ → ℕ → DimensionTotals = λ n p k m. refused_all_answer n p k m 0 in
        let said : Tree Member → DimensionTotals = λ t. dimension_answer t dimension (length T) in
        record {
          reading = reading;
          nodes_read = nodes_after (checked bs) N (length C);
          cells_read = cells_after (checked bs) (length N) C;
          is_read = is_read;
          of_refused = λ h. x.answer ∙ same_refusal refusing said (checked bs) h;
          of_accepted = λ m. x.answer ∙ of_accepted refusing said m;
          with_rows = λ m z. filled r.refusal (totals_after (checked bs) dimension T) T x.each_leaf z ∙ rw (derivation_checked bs b m.derivation m.demanded);
          with_records = λ z. (filled r.refusal (nodes_after (checked bs) N (length C)) N x.node_area z, filled r.refusal (cells_after (checked bs) (length N) C) C x.cell_area z);
          unchanged = λ z. (kept r.refusal (totals_after (checked bs) dimension T) T x.each_leaf z, kept r.refusal (nodes_after (checked bs) N (length C)) N x.node_area z, kept r.refusal (cells_after (checked bs) (length N) C) C x.cell_area z);
        }
