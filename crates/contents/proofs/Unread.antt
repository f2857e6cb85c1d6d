-- Bytes that are read, and bytes that are refused before.
use Rattle.std.specs.Prelude.{◌≡◌, true, false, List, ℕ, Result, Ok, Err}
use Rattle.std.proofs.Common.{sym, ◌∙◌, eq-eqb}
use Rattle.std.proofs.lemmas.Bool.{false≢true}
use Rattle.std.specs.Result.{is_err}
use Rattle.refusals.specs.declared.Refusal.{Refusal}
use Rattle.refusals.specs.Numbers.{number}
use Rattle.refusals.specs.Verdicts.{Refuses}
use Rattle.grammar.specs.Layout.{Layout, Tree}
use Rattle.contents.specs.Answers.{unread, Readable, Answers}
use Rattle.contents.specs.Laws.Answers.{answers_unread}

not_0 : (e : Refusal) → Refuses e.reason → number e.reason ≡ 0 → ⊥
not_0 e h z = false≢true (sym h ∙ eq-eqb (number e.reason) 0 z)

module _ (version : ℕ) (s : List ℕ) where
  pub is_read : (r : Result Unit Refusal) → Readable version s r → is_err r ≡ false → unread version s ≡ 0
  is_read (Ok x) h e = h
  is_read (Err x) h e = absurd (false≢true (sym e))

  pub is_unread : (r : Result Unit Refusal) → Readable version s r → is_err r ≡ true → unread version s ≡ 0 → ⊥
  is_unread (Ok x) h e z = false≢true e
  is_unread (Err x) h e z = not_0 x h.2 (sym h.0 ∙ z)

-- the answer for bytes that are refused
pub unread_answers : {A : Type 0} (version : ℕ) (g : Layout) (says : Tree g → A) (refused : ℕ → ℕ → A) (s : List ℕ) (e : Refusal)
    → (unread version s ≡ number e.reason) × (e.place ≡ 0) × Refuses e.reason → Answers version g says refused s (refused (number e.reason) e.place)
unread_answers version g says refused s e h = answers_unread (sym h.0) (not_0 e h.2) (rw h.1)
