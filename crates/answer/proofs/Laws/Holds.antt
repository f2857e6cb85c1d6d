-- Demand 3 holds of a call of `read_member`: from what the call answers by the tree that reading by the rule gives, or by its refusal.
use Rattle.std.specs.Prelude.{◌≡◌, ◌⊎◌, Bool, List, ℕ, ◌*◌, ◌≤◌, ◌<◌}
use Rattle.std.proofs.Math.Path.{refl, subst}
use Rattle.std.proofs.Common.{sym, ap, ◌∙◌, inl, inr, leb-true, leb-false}
use Rattle.std.proofs.Math.Bool.{true, false}
use native.Mathlib.Omega.{arith}
use Rattle.std.proofs.Math.ListN.{length}
use Rattle.std.proofs.Math.Dec.{leb}
use Rattle.sizes.specs.Sizes.{member_bytes, node_words, cell_words}
use Rattle.sizes.specs.Basics.{among, pick}
use Rattle.grammar.specs.Layout.{Tree, Bytes}
use Rattle.grammar.specs.Laws.Layout.Read.{Got, got, no}
use Rattle.answer.specs.declared.Answer.{Answer}
use Rattle.grammar.specs.Member.{Member, cells, nodes, MemberDerivation, AsDemanded, LargeEnough}
use Rattle.grammar.specs.Refused.{Refused, too_long, inside, left, RefusedWith, by_bytes, few_node_words, few_cell_words}
use Rattle.grammar.proofs.Laws.Member.RefusedBounds.{member_numbers, number_among, place_inside}
use Rattle.grammar.proofs.Laws.Member.RefusedExactly.{checked_exactly}
use Rattle.grammar.specs.Laws.Member.Checked.{checked}
use Rattle.grammar.specs.Laws.Member.Demanded.{one_derivation}
use Rattle.grammar.proofs.Laws.Member.Demanded.{accepted, derivation_checked}
use Rattle.answer.specs.Answer.{refusal, answer_of, nodes_after, cells_after, Delivered}
use Rattle.answer.specs.Answer as answers
use Rattle.answer.specs.Demand3.{Accepted, Yields, NoRecords, Demand3}

-- ---- refusals

-- what a refusal answers
records : (n p a c : ℕ) (N C : List ℕ) → NoRecords N C (refusal n p a c) N C
unfolding refusal
records n p a c N C = record { no_dimensions = (refl, refl); no_axes = (refl, refl, refl, refl); same_nodes = refl; same_cells = refl }

-- a number of document 01's that bytes get
not_number : (k n : ℕ) → among k member_numbers ≡ false → among n member_numbers ≡ true → n ≡ k → ⊥
not_number k n e f h = let z : false ≡ true = sym e ∙ ap (λ (m : ℕ). among m member_numbers) (sym h) ∙ f in let w : ◌≡◌ {A = ℕ} 0 1 = cc in omega arith

place_short : {bs : List ℕ} {n p : ℕ} → Refused bs n p → p ≤ member_bytes
place_short (too_long l) = omega arith
place_short (inside l b) = omega (arith, place_inside (inside l b))
place_short (left l v k r) = omega (arith, place_inside (left l v k r))

never : {A : Type 0} {y : Got A} {t : A} {r : List ℕ} {p n q : ℕ} → y ≡ got t r p → y ≡ no n q → ⊥
never e f = let z : ◌≡◌ {A = ℕ} 0 1 = cc in omega arith

-- a refusal has a number
pub not_zero : (bs : List ℕ) → Bytes bs → {n p : ℕ} → checked bs ≡ no n p → n ≡ 0 → ⊥
unfolding among
not_zero bs b {n} {p} e = not_number 0 n refl (number_among ((checked_exactly bs b n p).0 e))

module _ (bs : List ℕ) (b : Bytes bs) (N C : List ℕ) where
  refused : (n p : ℕ) → checked bs ≡ no n p → Demand3 bs N C (refusal n p 0 0) N C
  unfolding refusal among
  refused n p e =
      let f = (checked_exactly bs b n p).0 e in
      let k = number_among f in
      let none : (m : MemberDerivation bs) → AsDemanded m.tree → ⊥ = λ m d. never (derivation_checked bs b m d) e in
      let zero = not_zero bs b e in
      record {
        accepted_exactly = (λ z. absurd (zero z), λ a. absurd (none a.derivation a.demanded));
        yields = λ a. absurd (none a.derivation a.demanded);
        refused_exactly = λ m q. (
          λ h. by_bytes (rw (h.0, h.1) at f),
          λ h. both m q none e h,
        );
        nothing_else = λ z. records n p 0 0 N C;
        counts = λ h m. absurd (neither k h);
        no_counts = λ x y z. (refl, refl);
        place = (place_inside f, place_short f);
        no_place = λ z. absurd (zero z);
      }
    where
      neither : among n member_numbers ≡ true → (n ≡ 12) ⊎ (n ≡ 13) → ⊥
      neither k (inl h) = not_number 12 n refl k h
      neither k (inr h) = not_number 13 n refl k h

      both : (m q : ℕ) → ((m : MemberDerivation bs) → AsDemanded m.tree → ⊥) → checked bs ≡ no n p → RefusedWith bs (length N) (length C) m q → (n ≡ m) × (p ≡ q) × (m ≡ 0 → ⊥)
      both m q none e (by_bytes g) =
          let e' = (checked_exactly bs b m q).1 g in
          (cc, cc, not_number 0 m refl (number_among g))
      both m q none e (few_node_words x d l) = absurd (none x d)
      both m q none e (few_cell_words x d l h) = absurd (none x d)

  -- ---- a tree that was read

  module _ (m : MemberDerivation bs) (d : AsDemanded m.tree) {rest : List ℕ} {p : ℕ} (e : checked bs ≡ got m.tree rest p) where
    -- any other derivation is this one
    same : (m' : MemberDerivation bs) → m.tree ≡ m'.tree
    same m' = (one_derivation bs m m').0

    same_nodes : (m' : MemberDerivation bs) → nodes m.tree ≡ nodes m'.tree
    same_nodes m' = ap (λ (t : Tree Member). nodes t) (same m')

    same_cells : (m' : MemberDerivation bs) → length (cells m.tree) ≡ length (cells m'.tree)
    same_cells m' = ap (λ (t : Tree Member). length (cells t)) (same m')

    not_refused : {n q : ℕ} → Refused bs n q → ⊥
    not_refused {n} {q} f = never e ((checked_exactly bs b n q).1 f)

    -- an area is too small: the refusal n, with the counts
    too_small : (n : ℕ) → (n ≡ 12) ⊎ (n ≡ 13) → RefusedWith bs (length N) (length C) n 0 → (LargeEnough m.tree (length N) (length C) → ⊥)
        → ((k q : ℕ) → RefusedWith bs (length N) (length C) k q → (n ≡ k) × (0 ≡ q)) → Demand3 bs N C (refusal n 0 (nodes m.tree) (length (cells m.tree))) N C
    unfolding refusal
    too_small n which f small one =
        let large : (a : Accepted bs (length N) (length C)) → ⊥ =
        λ a. small (record { for_nodes = omega (arith, a.large.for_nodes, same_nodes a.derivation); for_cells = omega (arith, a.large.for_cells, same_cells a.derivation) }) in
        record {
          accepted_exactly = (λ z. absurd (real which z), λ a. absurd (large a));
          yields = λ a. absurd (large a);
          refused_exactly = λ k q. (
            λ h. rw (h.0, h.1) at f,
            λ h. let o = one k q h in (o.0, o.1, λ z. real which (o.0 ∙ z)),
          );
          nothing_else = λ z. records n 0 (nodes m.tree) (length (cells m.tree)) N C;
          counts = λ h m'. (same_nodes m', same_cells m');
          no_counts = λ x y z. absurd (neither which y z);
          place = (omega arith, omega arith);
          no_place = λ z. refl;
        }
      where
        real : (n ≡ 12) ⊎ (n ≡ 13) → n ≡ 0 → ⊥
        real (inl h) z = omega arith
        real (inr h) z = omega arith

        neither : (n ≡ 12) ⊎ (n ≡ 13) → (n ≡ 12 → ⊥) → (n ≡ 13 → ⊥) → ⊥
        neither (inl h) y z = y h
        neither (inr h) y z = z h

    few_nodes : length N < node_words * nodes m.tree → Demand3 bs N C (refusal 12 0 (nodes m.tree) (length (cells m.tree))) N C
    few_nodes l = too_small 12 (inl refl) (few_node_words m d l) (λ g. omega (arith, g.for_nodes)) one
      where
        one : (k q : ℕ) → RefusedWith bs (length N) (length C) k q → (12 ≡ k) × (0 ≡ q)
        one k q (by_bytes f) = absurd (not_refused f)
        one k q (few_node_words m' d' l') = (refl, refl)
        one k q (few_cell_words m' d' l' h') = absurd (omega (arith, same_nodes m'))

    few_cells : node_words * nodes m.tree ≤ length N → length C < cell_words * length (cells m.tree) → Demand3 bs N C (refusal 13 0 (nodes m.tree) (length (cells m.tree))) N C
    few_cells l h = too_small 13 (inr refl) (few_cell_words m d l h) (λ g. omega (arith, g.for_cells)) one
      where
        one : (k q : ℕ) → RefusedWith bs (length N) (length C) k q → (13 ≡ k) × (0 ≡ q)
        one k q (by_bytes f) = absurd (not_refused f)
        one k q (few_node_words m' d' l') = absurd (omega (arith, same_nodes m'))
        one k q (few_cell_words m' d' l' h') = (refl, refl)

    -- both are large enough
    enough : node_words * nodes m.tree ≤ length N → cell_words * length (cells m.tree) ≤ length C → {N' C' : List ℕ} → Yields m.tree N C (answers.accepted m.tree) N' C'
        → Demand3 bs N C (answers.accepted m.tree) N' C'
    unfolding answers.accepted
    enough l h {N'} {C'} y = record {
      accepted_exactly = (λ z. record { derivation = m; demanded = d; large = record { for_nodes = l; for_cells = h } }, λ a. refl);
      yields = λ a. subst (λ (t : Tree Member). Yields t N C (answers.accepted m.tree) N' C') (same a.derivation) y;
      refused_exactly = λ k q. (λ x. absurd (x.2 (sym x.0)), λ f. absurd (none k q f));
      nothing_else = λ z. absurd (z refl);
      counts = λ x. absurd (real x);
      no_counts = λ x. absurd (x refl);
      place = (omega arith, omega arith);
      no_place = λ z. refl;
    }
      where
        none : (k q : ℕ) → RefusedWith bs (length N) (length C) k q → ⊥
        none k q (by_bytes f) = not_refused f
        none k q (few_node_words m' d' l') = omega (arith, same_nodes m')
        none k q (few_cell_words m' d' l' h') = omega (arith, same_cells m')

        real : (◌≡◌ {A = ℕ} 0 12) ⊎ (◌≡◌ {A = ℕ} 0 13) → ⊥
        real (inl z) = omega arith
        real (inr z) = omega arith

    read : {r : Answer} {N' C' : List ℕ} → Delivered (got m.tree rest p) N C r N' C' → Demand3 bs N C r N' C'
    unfolding answer_of nodes_after cells_after pick answers.accepted
    read {r} {N'} {C'} x = go (leb (node_words * nodes m.tree) (length N)) refl (leb (cell_words * length (cells m.tree)) (length C)) refl
      where
        go : (u : Bool) → leb (node_words * nodes m.tree) (length N) ≡ u → (v : Bool) → leb (cell_words * length (cells m.tree)) (length C) ≡ v → Demand3 bs N C r N' C'
        go true f true g =
            let y : Yields m.tree N C (answers.accepted m.tree) N' C' = record {
              number_of_dimensions = refl;
              number_of_nodes = refl;
              number_of_cells = refl;
              entries_of_dimensions = refl;
              number_of_layers = refl;
              number_of_rows = refl;
              number_of_columns = refl;
              axis_order = refl;
              node_area = x.node_area ∙ rw (f, g);
              cell_area = x.cell_area ∙ rw (f, g);
            } in
            rw (x.answer, f, g) (enough (leb-true (node_words * nodes m.tree) (length N) f) (leb-true (cell_words * length (cells m.tree)) (length C) g) y)
        go true f false g = rw (x.answer, x.node_area, x.cell_area, f, g) (few_cells (leb-true (node_words * nodes m.tree) (length N) f) (leb-false (cell_words * length (cells m.tree)) (length C) g))
        go false f v g = rw (x.answer, x.node_area, x.cell_area, f) (few_nodes (leb-false (node_words * nodes m.tree) (length N) f))

  -- ---- the call

  pub demand3 : {r : Answer} {N' C' : List ℕ} → Delivered (checked bs) N C r N' C' → Demand3 bs N C r N' C'
  unfolding answer_of nodes_after cells_after
  demand3 {r} {N'} {C'} x = go (checked bs) refl x
    where
      go : (y : Got (Tree Member)) → checked bs ≡ y → Delivered y N C r N' C' → Demand3 bs N C r N' C'
      go (no n p) e x = rw (x.answer, x.node_area, x.cell_area) (refused n p e)
      go (got t rest p) e x =
          let a = accepted bs b t rest p e in
          let m = a.derivation in
          let d : AsDemanded m.tree = rw a.its_tree a.demanded in
          let e' : checked bs ≡ got m.tree rest p = rw a.its_tree e in
          let x' : Delivered (got m.tree rest p) N C r N' C' = rw a.its_tree x in
          read m d e' x'
