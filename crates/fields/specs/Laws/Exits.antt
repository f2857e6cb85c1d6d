-- What was read before a refusal, and the exit of a `?`.
use Rattle.std.specs.Prelude.{◌≡◌, refl, List, ℕ, suc, Result, Ok, Err}
use Rattle.std.proofs.Common.{sub-one, arith}
use Rattle.std.specs.Result.{IsErr, IsErrAnd}
use Rattle.std.proofs.lemmas.Result.{err_from_is_err_and}
use Rattle.refusals.specs.declared.Refusal.{Refusal}
use Rattle.refusals.specs.Numbers.{number, by_number}
use Rattle.layout.specs.Step.{Step}
use Rattle.grammar.specs.Layout.{Layout, Tree, ◌▸◌, times}
use Rattle.layout.specs.Reads.{ReadsTo}
use Rattle.layout.specs.Steps.Chain.{then, from_refused, times_more}
use Rattle.store.specs.Fields.{Fields}
use Rattle.fields.specs.Gives.{GivesTo, GivesValue, ShowsValue}
use Rattle.fields.specs.Laws.Gives.{◌⟩◌}

-- a layout begins with another
pub data Begins (a : Layout) : Layout → Type 0 where
  whole : Begins a a
  more : {g b : Layout} → Begins a g → Begins a (g ▸ b)

pub ruleset begins = (whole, more)

-- what begins with what is refused is refused
pub early : {a g : Layout} {s : List ℕ} {st : Step} {e : ℕ × ℕ} → Begins a g → ReadsTo a s st (Err e) → ReadsTo g s st (Err e)
early whole h = h
early (more b) h = then (from_refused refl) (early b h)

module _ {A : Type 0} {a : Layout} (g : Layout) {s : List ℕ} (st : Result ℕ Refusal) (r : Result (A × ℕ) Refusal) (e : Refusal) where
  -- the exit of a `?`
  pub exit : (k : A → Fields g) → IsErr r × IsErrAnd r (λ y. y ≡ e) → Begins a g → ReadsTo a s (by_number st) (Err (number e.reason, e.place)) → GivesValue g k s st r
  exit k x b h = let p = err_from_is_err_and r x.1 in rw (p.1, p.2) (early b h)

  pub exit_shows : {B : Type 0} (f : Tree g → ℕ → B) (k : A → B) → IsErr r × IsErrAnd r (λ y. y ≡ e) → Begins a g → ReadsTo a s (by_number st) (Err (number e.reason, e.place))
      → ShowsValue g f k s st r
  exit_shows f k x b h = let p = err_from_is_err_and r x.1 in rw (p.1, p.2) (early b h)

-- ---- that many times

module _ {a : Layout} {s : List ℕ} {st : Step} {e : ℕ × ℕ} where
  -- the first is refused
  pub stopped : (n : ℕ) → ReadsTo a s st (Err e) → ReadsTo (times (suc n) a) s st (Err e)
  stopped n h = times_more (suc n) (omega arith) h (from_refused refl)

  -- or one of the others
  pub again : (n : ℕ) {q : Step} {f : Fields a} → GivesTo a s st q f → ReadsTo (times n a) s q (Err e) → ReadsTo (times (suc n) a) s st (Err e)
  again n x h = times_more (suc n) (omega arith) x.reads (rw sub-one h)

-- ---- one after the other

-- a value after something that is read before it
pub after : {A : Type 0} {a : Layout} (b : Layout) {s : List ℕ} (st q : Result ℕ Refusal) {f : Fields a} (k : A → Fields b) (r : Result (A × ℕ) Refusal)
    → GivesTo a s (by_number st) (by_number q) f → GivesValue b k s q r → GivesValue (a ▸ b) (λ x. (f, k x)) s st r
after b st q k (Ok y) x h = x ⟩ h
after b st q k (Err e) x h = then h x.reads
