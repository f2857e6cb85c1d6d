-- The bytes of a category after its name where all are there: what they say, in a part of their size.
use Rattle.std.specs.Prelude.{◌≡◌, List, ℕ, ◌+◌, ◌^◌, ◌≤◌, ◌<◌, length, take, drop}
use Rattle.std.proofs.Math.Path.{refl, ap}
use Rattle.std.proofs.Common.{◌∙◌, arith, eq-eqb, ne_eqb}
use Rattle.std.specs.Prelude.{Ok}
use Rattle.sizes.specs.Basics.{among, pick}
use Rattle.grammar.specs.Layout.{little, any_number, the_number, one_of, passes, Bytes}
use Rattle.grammar.specs.Laws.Layout.Read.{read}
use Rattle.layout.specs.Reads.{peek, verdict, ReadsTo}
use Rattle.layout.specs.Steps.Chain.{◌◂◌}
use Rattle.layout.specs.Steps.Fixed.{passed, peek_in_part}
use Rattle.grammar.specs.Value.{Value}
use Rattle.grammar.specs.Table.{kinds, minus_one}
use Rattle.grammar.specs.Records.{Head}
use Rattle.table.specs.Laws.Heads.{HeadRead, node_of, leaf_head, group_head}

-- how many there are, for a leaf as for a group
abbrev pub own_part : ℕ
own_part = 15

-- 0 for a leaf or 1 for a group, the last word, and how many categories are below: three bytes, and three numbers of four bytes
pub data OwnIs (bs : List ℕ) : ℕ → ℕ → ℕ → Type 0 where
  own_leaf_lem : {kind first index last : ℕ} → kind ≡ peek little 3 bs (Ok 0) → kind ≡ 0 → first ≡ peek little 4 bs (Ok 3) → first ≡ 2 → index ≡ peek little 4 bs (Ok 7)
      → last ≡ peek little 4 bs (Ok 11) → last ≡ 0 → OwnIs bs 0 index 0
  own_group : {kind second n : ℕ} → kind ≡ peek little 3 bs (Ok 0) → (kind ≡ 0 → ⊥) → 0 ≡ verdict (one_of kinds) kind → second ≡ peek little 4 bs (Ok 7) → second ≡ minus_one
      → n ≡ peek little 4 bs (Ok 11) → OwnIs bs 1 n n

-- a category whose name ends at e, with all the bytes after it
module _ (version : ℕ) {s : List ℕ} {at e : ℕ} (b : Bytes s) (small : length s < 2 ^ 32) (v : ReadsTo (Value version) s (Ok at) (Ok e)) (l : e + own_part ≤ length s) where
  -- the number at k of them
  in_whole : (w k : ℕ) {x : ℕ} → k + w ≤ own_part → x ≡ peek little w (take own_part (drop e s)) (Ok k) → x ≡ peek little w s (Ok (e + k))
  in_whole w k h f = f ∙ peek_in_part little w own_part e k s h l

  pub own_there : {kind word children : ℕ} → OwnIs (take own_part (drop e s)) kind word children
      → HeadRead version s at (read (Head version) (drop at s) at) (node_of kind at (Ok e) word children (Ok (e + own_part)))
  unfolding verdict passes among pick
  own_there (own_leaf_lem {kind = kind} {index = index} k k₀ x x₂ y z z₀) =
      let kind_is : kind ≡ peek little 3 s (Ok e) = in_whole 3 0 (omega arith) k ∙ ap (λ (p : ℕ). peek little 3 s (Ok p)) (omega arith) in
      let c = passed {test = one_of kinds} {p = e + 3} (omega arith) kind_is (rw k₀) refl in
      let f = passed {test = the_number 2} {p = e + 7} (omega arith) (in_whole 4 3 (omega arith) x) (rw x₂) (omega arith) in
      let g = passed {test = any_number} {p = e + 11} (omega arith) (in_whole 4 7 (omega arith) y) refl (omega arith) in
      let h = passed {test = the_number 0} {p = e + own_part} (omega arith) (in_whole 4 11 (omega arith) z) (rw z₀) (omega arith) in
      leaf_head version b small v c index kind_is (eq-eqb kind 0 k₀) f (in_whole 4 7 (omega arith) y) (h ◂ g ◂ f)
  own_there (own_group {kind = kind} {n = n} k k₁ known y y₁ z) =
      let kind_is : kind ≡ peek little 3 s (Ok e) = in_whole 3 0 (omega arith) k ∙ ap (λ (p : ℕ). peek little 3 s (Ok p)) (omega arith) in
      let c = passed {test = one_of kinds} {p = e + 3} (omega arith) kind_is known refl in
      let f = passed {o = little} {w = 4} {test = any_number} {s = s} {at = e + 3} {p = e + 7} (omega arith) refl refl (omega arith) in
      let g = passed {test = the_number minus_one} {p = e + 11} (omega arith) (in_whole 4 7 (omega arith) y) (rw y₁) (omega arith) in
      let h = passed {test = any_number} {p = e + own_part} (omega arith) (in_whole 4 11 (omega arith) z) refl (omega arith) in
      group_head version b small v c n kind_is (ne_eqb kind 0 k₁) (g ◂ f) (in_whole 4 11 (omega arith) z) (h ◂ (g ◂ f))
