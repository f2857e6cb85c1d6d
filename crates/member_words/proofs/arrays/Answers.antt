use native.Mathlib.Omega.{arith}
use lib.ListN.{length-append}
use Rattle.store.specs.Laws.Puts.{◌⟩◌, long_words}
use Rattle.member_words.proofs.arrays.Goals as goal

pub shape_of-out : goal.shape_of-out
shape_of-out c = long_words (c.put-st.ensures ⟩ c.put.ensures)

pub returns : goal.returns
returns c = record { puts_words = c.put-st.ensures ⟩ c.put.ensures; order_len = rw length-append (omega arith) }
