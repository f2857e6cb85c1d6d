-- A member's own axes fit its n, and its cells are inside the table.
use Rattle.std.specs.Prelude.{◌≡◌, List, ◌++◌, ℕ, ◌+◌, ◌≤◌, ◌<◌, length}
use Rattle.std.proofs.Common.{sym, ◌∙◌, arith, leb-true, length-append}
use Rattle.std.proofs.lemmas.List.{length-map}
use Rattle.sizes.specs.Sizes.{most_dimensions}
use Rattle.grammar.specs.Layout.{Tree, All, passes}
use Rattle.grammar.specs.Records.{dim_leaves, entry_index, axis_entries}
use Rattle.grammar.specs.Member.{Member, version, dimensions_section, axes_section, dimensions, layers, rows, columns, order, cells, cells_start, ns, places, MemberDerivation, AsDemanded}
use Rattle.total.specs.Total.{CellSays, member_cells}
use Rattle.total.specs.Laws.Under.{all_say}
use Rattle.position.specs.Laws.Accepted.{Accepted, not_refused}
use Rattle.turned.specs.Turned.{own_axes, Fitting}

pub n_count : (t : Tree Member) → length (ns t) ≡ length (dimensions t)
n_count t = length-map (dimensions t) (λ x. length (dim_leaves (version t) x))

module _ {bs : List ℕ} (d : MemberDerivation bs) (a : AsDemanded d.tree) where
  few : length (dimensions d.tree) ≤ most_dimensions
  unfolding passes
  few = rw d.valid.1.2.0.0.1.2.0 (leb-true (dimensions_section d.tree).0 most_dimensions d.valid.1.2.0.0.1.1)

  -- as many entries as the counts say
  entry_count : length (order d.tree) ≡ layers d.tree + rows d.tree + columns d.tree
  entry_count =
      let e = (axes_section d.tree).1.1.1 in
      let v = d.valid.1.2.0.1.2.2.2 in
      length-map (axis_entries (axes_section d.tree)) entry_index
      ∙ length-append (e.0.0 ++ e.0.1) e.1
      ∙ rw (length-append e.0.0 e.0.1, v.0.0.0, v.0.1.0, v.1.0)

  own : Accepted (ns d.tree) (layers d.tree) (rows d.tree) (columns d.tree) (order d.tree)
  own = record {
    few = omega (arith, few, n_count d.tree);
    small = d.few_places;
    sum = a.counts ∙ sym (n_count d.tree);
    long = entry_count ∙ a.counts ∙ sym (n_count d.tree);
    once = rw (n_count d.tree) a.entries;
  }

  -- Own: a member's own axes fit
  pub own_fit : Fitting (ns d.tree) (own_axes d.tree)
  own_fit = not_refused (ns d.tree) (layers d.tree) (rows d.tree) (columns d.tree) (order d.tree) own

-- Inside: each cell's index is below the product
pub cells_inside : (t : Tree Member) → AsDemanded t → All (λ (c : CellSays). c.index < places t) (member_cells t)
cells_inside t a = all_say (version t) (λ k. k < places t) (cells_start t) (cells t) a.inside.below
