-- A call that read a look and wrote it again, by what the reader and the writer gave.
use mathlib.Core.Path.{◌≡◌, refl}
use mathlib.Core.Bool.{true, false}
use mathlib.Core.List.{List}
use Prim.Native.Nat.{ℕ, ◌≤◌}
use native.Mathlib.Omega.{arith}
use lib.ListN.{length}
use lib.Dec.{leb}
use Rattle.sizes.specs.Sizes.{longest_look, write_answer_words}
use Rattle.std.specs.Prelude.{Ok, Err}
use Rattle.sizes.specs.Basics.{pick}
use Rattle.grammar.specs.Layout.{Bytes}
use Rattle.layout.specs.Laws.Words.{word_same}
use Rattle.grammar.specs.Laws.Layout.Read.{read}
use Rattle.store.specs.Check.{place_of}
use Rattle.store.specs.Puts.{AtFront}
use Rattle.store.specs.Laws.Puts.{without_room}
use Rattle.look.specs.declared.Look.{Look}
use Rattle.look.specs.Read.{Answer}
use Rattle.look.specs.Look.{TableLook}
use Rattle.look.specs.Answers.{outcome, expected}
use Rattle.store.specs.Written.{Written}
use Rattle.store.specs.Deliver.{output}
use Rattle.look_write.specs.Writing.{Wrote}
use Rattle.look_write.specs.Laws.Calls.{reach_within}
use Rattle.look.specs.Laws.RefusedExactly.{refused_exactly, place_within}
use Rattle.written_words.specs.Encodings.{answer_words}
use Rattle.written_words.specs.Looks.{rewriting, step_words, Rewrote, Rewritten}

-- a place and a length that a look reaches lose no bit
pub stored_same : (v : Written) → place_of v ≤ longest_look → answer_words v ≡ step_words v
stored_same (Ok n) h = rw (word_same n (omega arith))
stored_same (Err (n, p)) h = rw (word_same p (omega arith))

-- a refusal of the reader
pub handed_on : {a : Answer} {n p : ℕ} (s out : List ℕ) → a ≡ Err (n, p) → Rewrote a s out (Err (n, p)) out
unfolding output
handed_on s out i = record {
  answers = rw i;
  holds = rw i;
  reach = λ x j. absurd (let z : ◌≡◌ {A = ℕ} 0 1 = cc in omega arith);
}

pub wrote : {a : Answer} {x : Look} {s out : List ℕ} {v : Written} {out' : List ℕ} → a ≡ Ok x → Wrote x s out v out' → Rewrote a s out v out'
wrote {a} {x} {s} {out} {v} {out'} i call = record {
  answers = rw i call.0;
  holds = rw i call.1;
  reach = λ y j. reach_within x s out v out' call;
}

module _ (s : List ℕ) (bs : Bytes s) (out answer : List ℕ) (a : Answer) (e : outcome a ≡ expected (read TableLook s 0)) where
  reach : {v : Written} {out' : List ℕ} → Rewrote a s out v out' → place_of v ≤ longest_look
  reach {v} call = go a refl
    where
      go : (c : Answer) → a ≡ c → place_of v ≤ longest_look
      go (Ok x) i = call.reach x i
      go (Err (n, p)) i = rw (call.answers, i) (place_within ((refused_exactly s bs a e n p).0 i))

  pub done : {v : Written} {n : ℕ} {out' answer' : List ℕ} → leb write_answer_words (length answer) ≡ true → Rewrote a s out v out'
      → AtFront write_answer_words (answer_words v) answer n answer' → Rewritten s out answer n out' answer'
  unfolding pick
  done {v} t call x = record {
    look = a;
    is_read = e;
    bytes = bs;
    words = rw (stored_same v (reach call), call.answers) at x;
    out_area = rw t call.holds;
  }

  pub not_asked : leb write_answer_words (length answer) ≡ false → Rewritten s out answer 0 out answer
  unfolding pick
  not_asked t = record { look = a; is_read = e; bytes = bs; words = without_room write_answer_words (step_words (rewriting a s (length out))) answer t; out_area = rw t }
