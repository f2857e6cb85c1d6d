use Rattle.look_words.proofs.Separators.{all_four}
use Rattle.look_words.proofs.borders.frame.Goals as goal

pub returns : goal.returns
returns c =
    let x = c.args.x in
    rw (all_four x.left x.right x.top x.bottom) at c.separators.ensures
