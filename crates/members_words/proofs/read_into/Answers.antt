use mathlib.Core.Path.{refl}
use Rattle.members_words.proofs.MemberList.{one_read}
use Rattle.members_words.proofs.read_into.Goals as goal

pub returns : goal.returns
returns c = one_read _ _ c.args.i _ _ _ refl refl c.requires c.read_nth-a.result c.read_nth-a.ensures c.member_words.ensures.puts_words c.member_words.ensures.a_len
