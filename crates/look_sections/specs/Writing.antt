-- What writing the sections of a look answers, and what the output then holds: document 02, T-12.
use Rattle.std.specs.Prelude.{◌≡◌, List, [], ℕ, length}
use Rattle.layout.specs.Step.{Step}
use Rattle.std.specs.Prelude.{Ok, Err}
use Rattle.grammar.specs.Layout.{Bytes}
use Rattle.grammar.specs.Laws.Layout.Read.{read}
use Rattle.grammar.specs.Laws.Layout.Check.{check}
use Rattle.layout.specs.Reads.{forget, chain}
use Rattle.store.specs.Written.{Written}
use Rattle.store.specs.Fields.{bytes_in}
use Rattle.store.specs.Fit.{Fit}
use Rattle.store.specs.Check as writes
use Rattle.store.specs.Deliver.{ending, output, answer}
use Rattle.look.specs.declared.Look.{Look}
use Rattle.look.specs.Read.{Answer}
use Rattle.look.specs.Look.{TableLook}
use Rattle.look.specs.Answers.{outcome, expected}
use Rattle.look_rules.specs.StyleRule.{style_rule}
use Rattle.styles.specs.declared.Styles.{Styles}
use Rattle.styles.specs.Styles.{styles}
use Rattle.sections_put.specs.Fields.{Sections, fields}

-- the bytes of the sections that a look makes, whose names lie in s
unfoldable pub sections : Look → List ℕ → List ℕ
sections x s = bytes_in Sections s (fields (styles x))

-- the length, or the refusal: of an accepted look those of the rule "in file order; 15 last"
unfoldable pub sectioning : Answer → List ℕ → ℕ → Step
sectioning (Err (n, p)) s room = Err (n, p)
sectioning (Ok x) s room = chain (forget (check style_rule s 0)) (λ _. ending room (length (sections x s)))

abbrev pub sectioned : Answer → List ℕ → List ℕ
sectioned (Ok x) s = sections x s
sectioned (Err (n, p)) s = []

-- the sections of styles x, whose names lie in s, were written into the output, or refused
pub record Stored (x : Styles) (s out : List ℕ) (r : Written) (out' : List ℕ) : Type 0 where
  pub answers : answer r ≡ chain (writes.check Sections s (fields x) 0) (ending (length out))
  pub holds : out' ≡ output (chain (writes.check Sections s (fields x) 0) (ending (length out))) (bytes_in Sections s (fields x)) out
  pub fit : Fit Sections s (fields x)

-- a call of `look_sections` for the bytes s of a look's file, which answered r and left out' in the output
pub record Wrote (s out : List ℕ) (r : Written) (out' : List ℕ) : Type 0 where
  -- what reading the file answers
  pub look : Answer
  pub is_read : outcome look ≡ expected (read TableLook s 0)
  pub answers : answer r ≡ sectioning look s (length out)
  pub holds : out' ≡ output (sectioning look s (length out)) (sectioned look s) out
  -- each number of what was written fits its bytes, as its type says
  pub fit : (x : Look) → look ≡ Ok x → (n : ℕ) → answer r ≡ Ok n → Fit Sections s (fields (styles x))
  pub bytes : Bytes s
