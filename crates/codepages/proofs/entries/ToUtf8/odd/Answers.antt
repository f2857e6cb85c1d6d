use Rattle.codepages.proofs.Pages.{odd_same, odd_else}
use Rattle.codepages.proofs.entries.ToUtf8.odd.Goals as goal

pub returns-in-Windows1251 : goal.returns-in-Windows1251
returns-in-Windows1251 c = odd_same _ c.in-Windows1251.is

pub returns-in_default : goal.returns-in_default
returns-in_default c = odd_else _ c.in_default.not-Windows1251
