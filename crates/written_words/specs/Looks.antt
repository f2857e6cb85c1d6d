-- A look that is read and written again, as 32-bit words in a lent area.
use Rattle.std.specs.Prelude.{◌≡◌, List, [], ◌∷◌, ℕ, ◌≤◌, length, leb}
use Rattle.sizes.specs.Sizes.{longest_look, write_answer_words}
use Rattle.layout.specs.Step.{Step}
use Rattle.std.specs.Prelude.{Ok, Err}
use Rattle.sizes.specs.Basics.{pick}
use Rattle.grammar.specs.Layout.{Bytes}
use Rattle.grammar.specs.Laws.Layout.Read.{read}
use Rattle.store.specs.Written.{Written}
use Rattle.store.specs.Check.{place_of}
use Rattle.store.specs.Puts.{AtFront}
use Rattle.look.specs.declared.Look.{Look}
use Rattle.look.specs.Read.{Answer as LookAnswer}
use Rattle.look.specs.Look.{TableLook}
use Rattle.look.specs.Answers.{outcome as lookOutcome, expected}
use Rattle.store.specs.Deliver.{output}
use Rattle.look_write.specs.Writing.{file, writing}

-- what reading a file and writing the look again gives: the length, or a refusal of the reader or the writer
abbrev pub rewriting : LookAnswer → List ℕ → ℕ → Step
rewriting (Ok x) s room = writing x s room
rewriting (Err (n, p)) s room = Err (n, p)

-- the bytes that are written
abbrev pub rewritten : LookAnswer → List ℕ → List ℕ
rewritten (Ok x) s = file x s
rewritten (Err (n, p)) s = []

-- three words: the refusal, 0 if there is none, its place, and the length; place and length are at most `longest_look`
abbrev pub step_words : Step → List ℕ
step_words (Ok n) = 0 ∷ 0 ∷ n ∷ []
step_words (Err (n, p)) = n ∷ p ∷ 0 ∷ []

-- what writing the look of an answer gave, r, and left in the output
pub record Rewrote (a : LookAnswer) (s out : List ℕ) (r : Written) (out' : List ℕ) : Type 0 where
  pub answers : r ≡ rewriting a s (length out)
  pub holds : out' ≡ output (rewriting a s (length out)) (rewritten a s) out
  -- the place of a refusal, and the length, of a look that was read
  pub reach : (x : Look) → a ≡ Ok x → place_of r ≤ longest_look

-- a call of `digarumbi_rewrite_look`, which gave n
pub record Rewritten (s out answer : List ℕ) (n : ℕ) (out' answer' : List ℕ) : Type 0 where
  -- what reading the file answers
  pub look : LookAnswer
  pub is_read : lookOutcome look ≡ expected (read TableLook s 0)
  pub words : AtFront write_answer_words (step_words (rewriting look s (length out))) answer n answer'
  pub bytes : Bytes s
  pub out_area : out' ≡ pick (leb write_answer_words (length answer)) (output (rewriting look s (length out)) (rewritten look s) out) out
