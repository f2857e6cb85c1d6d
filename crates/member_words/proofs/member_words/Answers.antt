use native.Mathlib.Omega.{arith}
use lib.ListN.{length-append}
use Rattle.store.specs.Laws.Puts.{◌⟩◌, long_words}
use Rattle.member_words.specs.MemberWords.{answer_words_of}
use Rattle.member_words.proofs.member_words.Goals as goal

pub shape_of-out : goal.shape_of-out
unfolding answer_words_of
shape_of-out c = long_words (c.put-st.ensures ⟩ c.arrays.ensures.puts_words)

pub returns : goal.returns
unfolding answer_words_of
returns c = record { puts_words = c.put-st.ensures ⟩ c.arrays.ensures.puts_words; a_len = rw length-append (omega (arith, rw length-append at c.arrays.ensures.order_len)) }
