-- What a look that is written again is: a file of version 02 as it was; of version 00 the file of version 02 that reads as what was answered.
use Rattle.std.specs.Prelude.{◌≡◌, List, ◌++◌, ℕ, ◌≤◌, length, drop}
use Rattle.std.proofs.Common.{ap, ◌∙◌}
use borrow.Author.Tests.{le-leb}
use Rattle.sizes.specs.Sizes.{write_answer_words}
use Rattle.sizes.specs.Basics.{pick}
use Rattle.grammar.specs.Layout.{Tree, Derivation}
use Rattle.grammar.specs.Laws.Layout.Read.{read}
use Rattle.look.specs.declared.Look.{Look}
use Rattle.look.specs.Read.{Answer as LookAnswer}
use Rattle.std.specs.Prelude.{Ok}
use Rattle.look.specs.Look.{TableLook}
use Rattle.look.specs.Answers.{outcome, expected}
use Rattle.store.specs.Deliver.{output}
use Rattle.look_write.specs.Writing.{file}
use Rattle.look_write.specs.Laws.Theorems as looks
use Rattle.look_write.specs.Laws.Theorems.{Renewed, Same}
use Rattle.written_words.specs.Looks.{Rewritten}

-- `digarumbi_rewrite_look`, of a file that has a derivation
module _ {s out answer : List ℕ} {n : ℕ} {out' answer' : List ℕ} (room : write_answer_words ≤ length answer)
    (c : Rewritten s out answer n out' answer') (d : Derivation TableLook s) where
  answered : (x : Look) × (c.look ≡ Ok x)
  answered = (looks.accepted_exactly s c.bytes c.look c.is_read).1 d

  -- the look that is answered, and the file that it is written as
  pub the_look : Look
  the_look = answered.0

  pub the_file : List ℕ
  the_file = file the_look s

  -- where the output has room for it, it begins with that file, and stays as it was beyond it
  pub writes_file : length the_file ≤ length out → out' ≡ the_file ++ drop (length the_file) out
  unfolding pick output the_file the_look
  writes_file fits =
      let i = rw answered.1 at c.is_read in
      let o = rw answered.1 at c.out_area in
      o ∙ rw (le-leb write_answer_words (length answer) room, looks.rewritten s c.bytes answered.0 i (length out), le-leb (length (file answered.0 s)) (length out) fits)

  is_read : outcome (Ok the_look) ≡ expected (read TableLook s 0)
  unfolding the_look
  is_read = rw answered.1 at c.is_read

  -- what the theorems of looks say of the file's derivation, they say of this one
  version_of : {v : ℕ} → d.tree.1.0 ≡ v → (looks.of_file s c.bytes the_look is_read).tree.1.0 ≡ v
  version_of e = ap (λ (t : Tree TableLook). t.1.0) (looks.never_two s (looks.of_file s c.bytes the_look is_read) d) ∙ e

  -- "Byte-for-byte rewriting in demand 2 holds for version 02" (document 02, T-10)
  pub same_bytes : d.tree.1.0 ≡ 2 → the_file ≡ s
  unfolding the_file
  same_bytes e = looks.rewritten_bytes s c.bytes the_look is_read (version_of e)

  -- "Rewriting one gives a version 02 file that reads as that look": the file with another version and the defaults behind it, 78 bytes longer
  pub old_renewed : d.tree.1.0 ≡ 0 → Renewed s the_file
  unfolding the_file
  old_renewed e = looks.rewritten_old s c.bytes the_look is_read (version_of e)

  pub reads_same : (a : LookAnswer) → outcome a ≡ expected (read TableLook the_file 0)
      → (y : Look) × (a ≡ Ok y) × Same the_look s y the_file
  unfolding the_file
  reads_same a e = looks.rewritten_reads_same s c.bytes the_look is_read a e

  -- and that, written again, is as it was
  pub again : (y : Look) → outcome (Ok y) ≡ expected (read TableLook the_file 0) → file y the_file ≡ the_file
  unfolding the_file
  again y e = looks.rewritten_again s c.bytes the_look is_read y e
