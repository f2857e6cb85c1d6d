-- What `start`, `feed` and `finish` answer (document 02, T-05; document 01: "All refusals return the number, the place"), as equations over the
-- machine of `case_stream`.
use Rattle.std.specs.Prelude.{◌≡◌, Bool, true, false, List, [], ◌∷◌, ◌++◌, ℕ, zero, suc, ◌-◌, ◌/◌, ◌≤◌, eqb, leb, ltb, length, take, drop, replicate, Result, Ok, Err, IfErr}
use Rattle.std.proofs.lemmas.List.Edits.{sets}
use Rattle.sizes.specs.Basics.{pick}
use Rattle.case_stream.specs.Stream.{Element, limit, most_kinds, most_bias, ended, bad, full}
use Rattle.case_stream.specs.Machine as machine
use Rattle.case_stream.specs.Machine.{gather, acting, stopped, fits, Out, out}
use Rattle.case_state.specs.declared.Cursor.{Cursor}
use Rattle.case_state.specs.declared.State.{State}
use Rattle.refusals.specs.declared.Refusal.{Refusal}
use Rattle.refusals.specs.declared.Reason.{Reason}
use Rattle.refusals.specs.declared.Reason.TheVariants.{Limit, CaseState, CaseCode, CaseEnd}
use Rattle.cases.specs.declared.Call.{Call}
use Rattle.case_state.specs.Cursor.{gather_at, numbers, view}
use Rattle.case_state.specs.Tests.{kinds_ok, state_ok}
use Rattle.cases.specs.Steps.{joined, firsts}

abbrev pub Answer : Type 0
Answer = Result Unit Refusal

abbrev pub well : Answer
well = Ok tt

abbrev pub refused : Reason → ℕ → Refusal
refused r p = record { reason = r; place = p }

-- "21 at place 0 for a bad kind list or bias at the start, or a state with a number out of range"
abbrev pub bad_state : Refusal
bad_state = refused CaseState 0

-- "22 .. at the code's position in the whole stream"
abbrev pub bad_code : ℕ → Refusal
bad_code p = refused CaseCode p

-- "7 likewise at position 4,294,967,295"
abbrev pub too_many : Refusal
too_many = refused Limit limit

-- "23, at the number of bytes taken so far"
abbrev pub too_soon : ℕ → Refusal
too_soon n = refused CaseEnd n

-- places are 32-bit words
abbrev pub Placed : {A : Type 0} → Result A Refusal → Type 0
Placed r = IfErr r (λ e. e.place ≤ limit)

-- ---- the start

-- kinds as the state has them: 256, with 0 for those that aren't there
unfoldable pub padded : ℕ → List ℕ → List ℕ
padded i l = take i l ++ replicate (256 - i) 0

-- before the first byte
abbrev pub cursor₀ : Cursor
cursor₀ = gather_at 0 0 0 0

-- "the kinds of a case's elements, 1 to 256 of them, numeric or string, and a bias that is a whole number from 0 to 255"
unfoldable pub start_ok : List ℕ → ℕ → Bool
start_ok l bias = pick (ltb 0 (length l)) (pick (leb (length l) most_kinds) (pick (leb bias most_bias) (kinds_ok (length l) (padded (length l) l)) false) false) false

abbrev pub started : List ℕ → ℕ → State
started l bias = record { kinds = padded (length l) l; count = length l; bias = bias; cursor = cursor₀ }

unfoldable pub start_of : List ℕ → ℕ → Result State Refusal
start_of l bias = pick (start_ok l bias) (Ok (started l bias)) (Err bad_state)

-- ---- a call

-- "the state answers 22 at that position for ever after; 7 likewise"
unfoldable pub refusal_of : machine.State → Answer
refusal_of (gather at n g) = well
refusal_of (acting at n p c cs k) = well
refusal_of (stopped at n ended) = well
refusal_of (stopped at n (bad p)) = Err (bad_code p)
refusal_of (stopped at n full) = Err too_many

-- what the machine does with a state, an input and an output of so many bytes: room for an element is eight bytes
unfoldable pub fed_of : State → List ℕ → ℕ → Out
fed_of s input bytes = machine.feed (firsts s.count s.kinds) s.bias (view s.cursor) input (fits (bytes / 8))

abbrev pub state_after : Out → machine.State
state_after (out t rest es) = t

abbrev pub not_taken : Out → List ℕ
not_taken (out t rest es) = rest

abbrev pub elements : Out → List Element
elements (out t rest es) = es

-- the state's numbers, its refusal, the bytes taken, the elements written
unfoldable pub answered : State → List ℕ → Out → Call
answered s input x = record {
  state = record { kinds = s.kinds; count = s.count; bias = s.bias; cursor = numbers (state_after x) };
  answer = refusal_of (state_after x);
  taken = length input - length (not_taken x);
  written = length (elements x);
}

-- 21 with nothing taken or written and the state as it was; or what the machine does
unfoldable pub call_of : State → List ℕ → ℕ → Call
call_of s input bytes = pick (state_ok s) (answered s input (fed_of s input bytes)) (record { state = s; answer = Err bad_state; taken = 0; written = 0 })

-- the elements stand at the output's front, and "output beyond the elements stays"
unfoldable pub output_of : State → List ℕ → List ℕ → List ℕ
output_of s input o = pick (state_ok s) (sets o 0 (joined (elements (fed_of s input (length o))))) o

-- a call of `feed`: r and the output o₁ after it
pub record Called (s : State) (input o₀ o₁ : List ℕ) (r : Call) : Type 0 where
  pub is : r ≡ call_of s input (length o₀)
  pub output : o₁ ≡ output_of s input o₀
  -- the numbers that it leaves stand for the machine's state
  pub stands : state_ok s ≡ true → fed_of s input (length o₀) ≡ out (view r.state.cursor) (drop r.taken input) (elements (fed_of s input (length o₀)))
  -- no call leaves a state that is 21
  pub lasts : state_ok s ≡ true → state_ok r.state ≡ true
  -- the two counts are 32-bit words
  pub taken_in : r.taken ≤ limit
  pub written_in : r.written ≤ limit

-- ---- the end

-- "23 .. when told of the end before a 252 has acted, if a code is still to act, a group or block unfinished or a case incomplete"
unfoldable pub ending : machine.State → Answer
ending (gather zero n []) = well
ending (gather (suc at) n []) = Err (too_soon n)
ending (gather at n (c ∷ g)) = Err (too_soon n)
ending (acting at n p c cs k) = Err (too_soon n)
ending (stopped at n ended) = well
ending (stopped at n (bad p)) = Err (bad_code p)
ending (stopped at n full) = Err too_many

unfoldable pub finish_of : State → Answer
finish_of s = pick (state_ok s) (ending (view s.cursor)) (Err bad_state)

-- ---- the same by phases, as the code has it

unfoldable pub refusal_at : ℕ → ℕ → Answer
refusal_at phase place = pick (eqb phase 22) (Err (bad_code place)) (pick (eqb phase 7) (Err too_many) well)

unfoldable pub unfinished_at : ℕ → ℕ → ℕ → ℕ → Answer
unfinished_at phase left at n = pick (eqb phase 0) (pick (eqb left 0) (pick (eqb at 0) well (Err (too_soon n))) (Err (too_soon n))) (Err (too_soon n))

unfoldable pub end_where : Cursor → Answer
end_where c = pick (eqb c.phase 252) well
    (pick (eqb c.phase 22) (refusal_at c.phase c.place)
    (pick (eqb c.phase 7) (refusal_at c.phase c.place)
    (unfinished_at c.phase c.left c.at c.taken)))
