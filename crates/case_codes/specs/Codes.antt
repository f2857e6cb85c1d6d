-- What a verdict of the code says to an element, in the words of the stream's meaning.
use Rattle.sizes.specs.Basics.{le}
use Rattle.case_stream.specs.Stream.{Says, skip, finish, block, wrong, gives}
use Rattle.case_codes.specs.declared.Verdict.{Verdict}
use Rattle.case_codes.specs.declared.Verdict.TheVariants.{Skip, Finish, Block, Wrong, Gives}

abbrev pub said : Verdict → Says
said Skip = skip
said Finish = finish
said Block = block
said Wrong = wrong
said (Gives x) = gives (le 8 x)
