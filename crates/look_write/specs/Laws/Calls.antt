-- Theorems of a call of `write_look`, for any look, lent bytes and output: from what its contract ensures of the answer r and the output out'.
use Rattle.std.specs.Prelude.{◌≡◌, ◌↔◌, List, ℕ, ◌≤◌, length, take, drop}
use Rattle.std.proofs.Math.Path.{sym, ap}
use Rattle.std.proofs.Common.{◌∙◌, take_at, drop_at}
use Rattle.sizes.specs.Sizes.{longest_look}
use Rattle.layout.specs.Step.{Step}
use Rattle.std.specs.Prelude.{Ok, Err}
use Rattle.grammar.specs.Laws.Layout.Read.{read}
use Rattle.store.specs.Check.{place_of}
use Rattle.look.specs.declared.Look.{Look}
use Rattle.look.specs.Read.{Answer}
use Rattle.look.specs.Look.{TableLook}
use Rattle.look.specs.Answers.{outcome, expected}
use Rattle.store.specs.Written.{Written}
use Rattle.store.specs.Deliver.{output, answer}
use Rattle.store.specs.Laws.Deliver.{is_refused, is_length}
use Rattle.look_write.specs.Writing.{file, writing, Wrote}
use Rattle.look_write.specs.Refused as refusals
use Rattle.look_write.specs.Refused.{Allowed}
use Rattle.look_write.specs.Laws.RefusedExactly.{refused_exactly, written_exactly, place_within}
use Rattle.look_write.specs.Laws.Theorems.{Same, written_reads_same}

module _ (x : Look) (s out : List ℕ) (r : Written) (out' : List ℕ) (call : Wrote x s out r out') where
  -- it refuses exactly what is refused, by that number and at that place, and leaves the output as it was
  pub refuses_exactly : (n p : ℕ) → (r ≡ Err (n, p)) ↔ refusals.Refused x s (length out) n p
  refuses_exactly n p = (
    λ e. (refused_exactly x s (length out) n p).0 (sym call.0 ∙ ap answer e),
    λ f. is_refused r n p (call.0 ∙ (refused_exactly x s (length out) n p).1 f),
  )

  pub refusal_keeps : (n p : ℕ) → r ≡ Err (n, p) → out' ≡ out
  unfolding output
  refusal_keeps n p e =
      let w : writing x s (length out) ≡ Err (n, p) = sym call.0 ∙ ap answer e in
      call.1 ∙ ap (λ (c : Step). output c (file x s) out) w

  -- the place of a refusal, and the length, are no farther than the longest look reaches
  pub reach_within : place_of (answer r) ≤ longest_look
  reach_within = rw call.0 (place_within x s (length out) call.2)

  -- it writes exactly what is not refused, and answers the length of the file
  pub writes_exactly : (n : ℕ) → (r ≡ Ok n) ↔ (Allowed x s (length out) × (n ≡ length (file x s)))
  writes_exactly n = (
    λ e. (written_exactly x s (length out) n).0 (sym call.0 ∙ ap answer e),
    λ h. is_length r n (call.0 ∙ (written_exactly x s (length out) n).1 h),
  )

  module _ (n : ℕ) (e : r ≡ Ok n) where
    next : writing x s (length out) ≡ Ok n
    next = sym call.0 ∙ ap answer e

    long : length (file x s) ≡ n
    long = sym ((writes_exactly n).0 e).1

    -- the output begins with the file, and stays as it was beyond it
    pub output_begins : take n out' ≡ file x s
    unfolding output
    output_begins = rw (call.1, next) (take_at (file x s) (drop n out) n long)

    pub output_beyond : drop n out' ≡ drop n out
    unfolding output
    output_beyond = rw (call.1, next) (drop_at (file x s) (drop n out) n long)

    -- "a written look reads as the same look": whatever answer meets `read_look`'s contract for those bytes of the output
    pub reads_same : (a : Answer) → outcome a ≡ expected (read TableLook (take n out') 0)
        → (y : Look) × (a ≡ Ok y) × Same x s y (take n out')
    reads_same a i = rw output_begins (written_reads_same x s call.3 call.2 (length out) n next a (rw output_begins at i))
