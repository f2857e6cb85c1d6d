-- The state is canonical: the numbers of a good one are those of the state that it stands for.
use Rattle.std.specs.Prelude.{◌≡◌, Bool, true, false, eqb}
use Rattle.std.proofs.Math.Path.{refl}
use Rattle.std.proofs.Common.{sym, ap, ◌∙◌, pow-suc, arith}
use Prim.Native.Nat.{ℕ, suc, ◌+◌, ◌-◌, ◌*◌, ◌/◌, ◌%◌, ◌^◌, ◌<◌}
use Rattle.std.proofs.Math.ListN.{length}
use borrow.Author.Tests.{eqb-true, eqb-false}
use Rattle.sizes.specs.Basics.{le, undigit, pick}
use Rattle.grammar.specs.Layout.{little, undigits, digits}
use Rattle.grammar.specs.Laws.Layout.Digits.{length_le, undigits_digits}
use Rattle.case_stream.specs.Machine.{stopped}
use Rattle.case_state.specs.declared.Cursor.{Cursor}
use Rattle.case_state.specs.Cursor.{rest_at, numbers, stop_of, view, Good, StoppedBy, by_252, by_22, by_7}
use Rattle.cases.specs.Laws.Goods.{view_gather, view_acting, view_stopped}

undigit_le : (w x : ℕ) → x < 256 ^ w → undigit (le w x) ≡ x
unfolding digits undigits
undigit_le w x h = undigits_digits little w x h

same : (c : Cursor) (a b e f g h i j : ℕ) → a ≡ c.at → b ≡ c.taken → e ≡ c.phase → f ≡ c.place → g ≡ c.codes → h ≡ c.left → i ≡ c.block → j ≡ c.filled
    → ◌≡◌ {A = Cursor} (record { at = a; taken = b; phase = e; place = f; codes = g; left = h; block = i; filled = j }) c
same c a b e f g h i j e₁ e₂ e₃ e₄ e₅ e₆ e₇ e₈ = rw (e₁, e₂, e₃, e₄, e₅, e₆, e₇, e₈)

numbers_stopped : {count at n w p : ℕ} → StoppedBy count at n w p → numbers (stopped at n (stop_of w p)) ≡ rest_at at n w p
unfolding numbers stop_of pick
numbers_stopped (by_252 a b) = refl
numbers_stopped (by_22 p a b) = refl
numbers_stopped (by_7 a) = refl

module _ (count : ℕ) (c : Cursor) (g : Good count c) where
  canon_gather : c.phase ≡ 0 → numbers (view c) ≡ c
  unfolding numbers
  canon_gather e =
      let q = g.gathers e in
      let k : c.block < 256 ^ 0 = rw q.3 at g.block_in in
      rw (view_gather c e) (same c c.at c.taken 0 0 (undigit (le c.left c.codes)) (length (le c.left c.codes)) 0 0
      refl refl (sym e) (sym q.2) (undigit_le c.left c.codes g.codes_in) (length_le c.left c.codes) (omega arith) (sym q.3))

  canon_acting : c.phase ≡ 1 → numbers (view c) ≡ c
  unfolding numbers undigit
  canon_acting e =
      let q = g.acts e in
      let w : c.left ≡ suc (c.left - 1) = omega (arith, q.0) in
      let v : c.codes < 256 ^ (c.left - 1) * 256 = rw (w, pow-suc) at g.codes_in in
      let h : undigit (le (c.left - 1) (c.codes / 256)) ≡ c.codes / 256 = undigit_le (c.left - 1) (c.codes / 256) (omega arith) in
      rw (view_acting c e) (same c c.at c.taken 1 c.place (c.codes % 256 + 256 * undigit (le (c.left - 1) (c.codes / 256))) (1 + length (le (c.left - 1) (c.codes / 256))) (undigit (le c.filled c.block)) (length (le c.filled c.block))
      refl refl (sym e) refl (omega arith) (omega (arith, length_le (c.left - 1) (c.codes / 256))) (undigit_le c.filled c.block g.block_in) (length_le c.filled c.block))

  canon_stopped : eqb c.phase 0 ≡ false → eqb c.phase 1 ≡ false → numbers (view c) ≡ c
  canon_stopped e f =
      let q = g.rests (eqb-false c.phase 0 e) (eqb-false c.phase 1 f) in
      let k : c.block < 256 ^ 0 = rw q.1 at g.block_in in
      let l : c.codes < 256 ^ 0 = rw q.0 at g.codes_in in
      rw (view_stopped c e f, numbers_stopped q.2) (same c c.at c.taken c.phase c.place 0 0 0 0 refl refl refl refl (omega arith) (sym q.0) (omega arith) (sym q.1))

  pub numbers_view : numbers (view c) ≡ c
  numbers_view = by (eqb c.phase 0) (eqb c.phase 1) refl refl
    where
      by : (x y : Bool) → eqb c.phase 0 ≡ x → eqb c.phase 1 ≡ y → numbers (view c) ≡ c
      by true y e f = canon_gather (eqb-true c.phase 0 e)
      by false true e f = canon_acting (eqb-true c.phase 1 f)
      by false false e f = canon_stopped e f

-- two good ones that stand for one state are the same
pub view_one : {count : ℕ} {c d : Cursor} → Good count c → Good count d → view c ≡ view d → c ≡ d
view_one {count} {c} {d} g k e = sym (numbers_view count c g) ∙ ap numbers e ∙ numbers_view count d k
