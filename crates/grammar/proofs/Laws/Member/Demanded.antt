-- Demand 3 by the rule of the member: a tree passes the rule exactly when it is as demanded and keeps the sizes, and so reading by the rule
-- gives exactly the derivations that are as demanded.
use Rattle.std.specs.Prelude.{◌≡◌, refl, ◌↔◌, Bool, true, false, ℕ, suc, ◌≤◌, length, eqb, leb}
use Rattle.std.proofs.Math.Path.{sym, ap}
use Rattle.std.proofs.Common.{◌∙◌, arith}
use mathlib.Core.List.{List, [], ◌∷◌, ◌++◌}
use Rattle.std.proofs.Math.Nat.{zero-add}
use borrow.Author.Tests.{eqb-true, leb-true, le-leb}
use Rattle.sizes.specs.Sizes.{member_bytes, most_nodes, most_places}
use Rattle.sizes.specs.Basics.{pick}
use Rattle.grammar.specs.Layout.{Tree, spell, Bytes}
use Rattle.grammar.specs.Fails.{Spells}
use Rattle.grammar.specs.Rule.{Kept}
use Rattle.grammar.specs.Laws.Layout.Read.{got, lead}
use Rattle.grammar.specs.Laws.Layout.Check.{check}
use Rattle.grammar.specs.Laws.Layout.{passes_exactly}
use Rattle.grammar.specs.Laws.Table.KeptTable.{axes_kept, cells_kept}
use Rattle.grammar.proofs.Laws.Table.KeptTable.{dimensions_kept}
use Rattle.grammar.specs.Member.{Member, final, version, dimensions, nodes, places, MemberDerivation, AsDemanded, dimensions_section, axes_section, cells_section}
use Rattle.grammar.specs.Refused.{body_rule, member_rule}
use Rattle.grammar.specs.Laws.Member.Checked.{ended, checked}
use Rattle.grammar.specs.Laws.Member.Demanded.{picked, ended_got, Accepted}

-- Demanded: a tree passes the tests of the rule exactly when it is as demanded and keeps the sizes
pub kept_demanded : (t : Tree Member) → Kept member_rule t ↔ (AsDemanded t × (nodes t ≤ most_nodes) × (places t ≤ most_places))
unfolding member_rule body_rule
kept_demanded t =
    let d = dimensions_kept (version t) (dimensions_section t) in
    let a = axes_kept (version t) (dimensions t) (axes_section t) in
    let c = cells_kept (version t) (places t) (cells_section t) in (
      λ k.
          let x = d.0 k.1.0.0.1 in
          let y = a.0 k.1.0.1 in
          (record { leaves = x.1; counts = y.1; entries = y.2; inside = c.0 k.1.1 }, x.0, y.0),
      λ m.
          let o = m.0 in
          (tt, (((tt, d.1 (m.1, o.leaves)), a.1 (m.2, o.counts, o.entries)), c.1 o.inside)),
    )

by_first : (x : ℕ) (xs : List ℕ) (b : Bool) → eqb x 0x01 ≡ b → suc (length xs) ≤ pick b 1 0 → (e : Bool) × (x ∷ xs ≡ final e)
unfolding pick
by_first x [] true e h = (true, rw (eqb-true x 0x01 e))
by_first x (y ∷ ys) true e h = absurd (omega arith)
by_first x xs false e h = absurd (omega arith)

is_final : (r : List ℕ) → length r ≤ lead 0x01 1 r → (e : Bool) × (r ≡ final e)
unfolding lead
is_final [] h = (false, refl)
is_final (x ∷ xs) h = by_first x xs (eqb x 0x01) refl h

final_ends : (e : Bool) → leb (length (final e)) (lead 0x01 1 (final e)) ≡ true
unfolding lead pick
final_ends true = refl
final_ends false = refl

module _ (bs : List ℕ) (b : Bytes bs) where
  -- Accepted: what is read is a derivation, and it is as demanded
  pub accepted : (t : Tree Member) (r : List ℕ) (p : ℕ) → checked bs ≡ got t r p → Accepted bs t r p
  unfolding checked
  accepted t r p e =
      let h = picked (leb (length bs) member_bytes) (ended (check member_rule bs 0)) 1 0 t r p e in
      let g = ended_got (check member_rule bs 0) t r p h.1 in
      let q = (passes_exactly member_rule bs b 0 t r p).0 g.0 in
      let k = (kept_demanded t).0 q.1 in
      let f = is_final r g.1 in
      record {
        derivation = record {
          tree = t;
          ends = f.0;
          valid = q.0.valid;
          spells = sym (q.0.split ∙ ap (λ (l : List ℕ). spell Member t ++ l) f.1);
          short = leb-true (length bs) member_bytes h.0;
          few_nodes = k.1;
          few_places = k.2;
        };
        its_tree = refl;
        demanded = k.0;
        spells = q.0;
        rest = f.1;
        place = rw zero-add at q.2;
      }

  -- Read: a derivation that is as demanded is what is read
  pub derivation_checked : (m : MemberDerivation bs) → AsDemanded m.tree → checked bs ≡ got m.tree (final m.ends) (length (spell Member m.tree))
  unfolding checked ended pick
  derivation_checked m o =
      let k = (kept_demanded m.tree).1 (o, m.few_nodes, m.few_places) in
      let s : Spells Member bs m.tree (final m.ends) = record { valid = m.valid; split = sym m.spells } in
      let e = (passes_exactly member_rule bs b 0 m.tree (final m.ends) (length (spell Member m.tree))).1 (s, k, sym (zero-add (length (spell Member m.tree)))) in
      rw (le-leb (length bs) member_bytes m.short, e, final_ends m.ends)

  -- Exactly: a member has a derivation as demanded exactly when reading by the rule gives a tree
  pub demanded_exactly : ((m : MemberDerivation bs) × AsDemanded m.tree) ↔ ((t : Tree Member) × (r : List ℕ) × (p : ℕ) × (checked bs ≡ got t r p))
  demanded_exactly = (
    λ d. (d.0.tree, final d.0.ends, length (spell Member d.0.tree), derivation_checked d.0 d.1),
    λ c. let a = accepted c.0 c.1 c.2 c.3 in (a.derivation, rw a.its_tree a.demanded),
  )
