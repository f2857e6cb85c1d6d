use Rattle.look_words.proofs.Separators.{all_four}
use Rattle.look_words.proofs.borders.lines.Goals as goal

pub returns : goal.returns
returns c =
    let x = c.args.x in
    rw (all_four x.horizontal_dimension x.vertical_dimension x.horizontal_category x.vertical_category) at c.separators.ensures
