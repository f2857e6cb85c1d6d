-- T-05: "However the bytes are cut and whatever room each call had, from the same start, once every byte was offered and calls with room
-- neither take nor write any more, the elements joined together and the final state are the same."
use Rattle.std.specs.Prelude.{◌≡◌, List, [], ℕ, suc}
use Rattle.std.proofs.Common.{sym, ◌∙◌}
use Rattle.case_stream.specs.Stream.{Element, meaning}
use Rattle.case_stream.specs.Machine.{State, fits, out, feed, start}
use Rattle.case_stream.specs.Cuts.{Calls, out_of}
use Rattle.case_stream.proofs.Laws.OneAnswer.{one_answer}
use Rattle.case_stream.proofs.Laws.Meaning.{run_means}

-- Calls from a start, then one with room that was offered all that is left and took and wrote nothing: the elements joined together, the final
-- state and the bytes never taken are those of the whole stream's meaning, which knows of no state and no cut.
pub cut_free : {kinds : List ℕ} {bias : ℕ} {u v : State} {s s' : List ℕ} {es : List Element} → Calls kinds bias start s u s' es
    → (r : ℕ) → feed kinds bias u s' (fits (suc r)) ≡ out v s' [] → out v s' es ≡ out_of kinds bias 0 (meaning kinds bias s)
cut_free {kinds} {bias} {s = s} c r e = sym (one_answer kinds bias c r e) ∙ run_means kinds bias s
