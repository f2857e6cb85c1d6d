use Rattle.std.proofs.Common.{refl, sym, ◌∙◌}
use Rattle.sizes.specs.Basics.{among}
use Rattle.layout.specs.Steps.Slices.{bytes_of}
use Rattle.contents.proofs.Laws.Figure.{figure_plain}
use Rattle.contents.proofs.figure.read_figure.Goals as goal

pub returns-then-is_plain-clause-value : goal.returns-then-is_plain-clause-value
returns-then-is_plain-clause-value c = figure_plain _ (bytes_of _ c.type_inv.s) (sym c.is_plain.ensures ∙ c.if-is_plain.true) c.plain_bits.ensures

pub returns-then-is_plain-clause-there : goal.returns-then-is_plain-clause-there
unfolding among
returns-then-is_plain-clause-there c = refl
