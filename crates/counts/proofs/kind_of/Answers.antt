use Rattle.std.proofs.Common.{◌≡◌, ◌<◌, ◌≤◌, ℕ, zero, suc, true, [], ◌∷◌, refl, arith}
use borrow.Author.Tests.{ne_eqb}
use Rattle.sizes.specs.Basics.{pick, among}
use Rattle.counts.specs.Count.{kind}
use Rattle.counts.proofs.kind_of.Goals as goal

one_or_two : (n : ℕ) → 1 ≤ n → n < 3 → among n (1 ∷ 2 ∷ []) ≡ true
unfolding among
one_or_two zero h l = absurd (omega arith)
one_or_two (suc zero) h l = refl
one_or_two (suc (suc zero)) h l = refl
one_or_two (suc (suc (suc n))) h l = absurd (omega arith)

pub returns-in-1 : goal.returns-in-1
unfolding kind pick
returns-in-1 c = rw (one_or_two c.args.form (omega arith) (omega arith)) c.double_kind.ensures

pub returns-in_default : goal.returns-in_default
unfolding kind pick among
returns-in_default c = rw (ne_eqb c.args.form 1 (λ e. omega arith), ne_eqb c.args.form 2 (λ e. omega arith))

pub returns-in_default-2 : goal.returns-in_default-2
unfolding kind pick among
returns-in_default-2 c = rw (ne_eqb c.args.form 1 (λ e. omega arith), ne_eqb c.args.form 2 (λ e. omega arith))
