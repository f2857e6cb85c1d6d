-- Reading bytes by a rule, from the front: as `Read`, with the tests at their places.
use Rattle.std.proofs.Math.Option.{Option, none, some}
use Rattle.std.specs.Prelude.{List, [], ◌∷◌, ℕ, zero, suc, ◌+◌, ◌-◌}
use Rattle.sizes.specs.Basics.{pick}
use Rattle.grammar.specs.Layout.{passes, Layout, Tree}
use Rattle.grammar.specs.Rule.{Rule, plain, ◌▸▸◌, numbered, items, asked, tested}
use Rattle.grammar.specs.Laws.Layout.Read.{Got, got, no, refusal, bind, read_number, read}

-- n of them, after those that are done
unfoldable pub check_times : {A : Type 0} → (List A → List ℕ → ℕ → Got A) → List A → ℕ → List ℕ → ℕ → Got (List A)
unfolding bind
check_times f done zero s at = got [] s at
check_times f done (suc n) s at =
    bind (f done s at) (λ t s₁ at₁. bind (check_times f (t ∷ done) n s₁ at₁) (λ ts s₂ at₂. got (t ∷ ts) s₂ at₂))

-- a verdict on a tree
unfoldable pub judge : {A : Type 0} → ℕ → ℕ → Option ℕ → A → List ℕ → ℕ → Got A
judge n start none t s at = got t s at
judge n start (some q) t s at = no n (start + q)

unfoldable pub check : {g : Layout} → Rule g → List ℕ → ℕ → Got (Tree g)
unfolding bind pick read_number read check_times judge
check (plain g) s at = read g s at
check (u ▸▸ k) s at = bind (check u s at) (λ t s₁ at₁. bind (check (k t) s₁ at₁) (λ v s₂ at₂. got (t, v) s₂ at₂))
check (numbered {o} {w} {test} k) s at =
    bind (read_number o w s at)
    (λ n s₁ at₁. pick (passes test n) (bind (check (k n) s₁ at₁) (λ t s₂ at₂. got (n, t) s₂ at₂)) (no (refusal test n) at))
check (items {n} {a} k) s at = check_times (λ done s₁ at₁. check (k done) s₁ at₁) [] n s at
check (asked b n back u) s at = pick b (check u s at) (no n (at - back))
check (tested u n v) s at = bind (check u s at) (λ t s₁ at₁. judge n at (v t) t s₁ at₁)
