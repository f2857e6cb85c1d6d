use Rattle.std.proofs.lemmas.Bool.{le-leb, lt-leb}
use Rattle.member_words.proofs.Read.{with_answer, without_answer}
use Rattle.member_words.proofs.member_answer.Goals as goal

pub returns : goal.returns
returns c = with_answer _ _ _ _ _ (le-leb _ _ c.if-short.false) c.read_member-a.ensures.checks c.read_member-a.ensures.demands c.member_words.ensures.puts_words c.member_words.ensures.a_len

pub returns-then-short : goal.returns-then-short
returns-then-short c = without_answer _ _ _ _ (lt-leb _ _ c.if-short.true)
