use Rattle.store.specs.Laws.Puts.{plain_letters}
use Rattle.layout.specs.Steps.Slices.{bytes_of}
use Rattle.store.proofs.write.plain_letters.Goals as goal

pub returns : goal.returns
returns c = plain_letters (bytes_of c.args.text.now c.type_inv.text) c.raw.ensures
