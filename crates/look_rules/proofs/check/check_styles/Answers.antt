use Rattle.layout.specs.Reads.{chain}
use Rattle.layout.specs.Steps.Slices.{bytes_of}
use Rattle.look_rules.proofs.check.check_styles.Goals as goal

pub returns : goal.returns
unfolding chain
returns c =
    let b = bytes_of c.args.file.now c.type_inv.file in
    (c.table_look.ensures.is b, b)
