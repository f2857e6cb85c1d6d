use Rattle.std.proofs.Common.{w32}
use mir.ValLaws.{to_z-of_z}
use lib.Ieee.{binary32}
use Rattle.styles.specs.Styles.{size}
use Rattle.styles.proofs.Floats.{whole_number}
use Rattle.styles.proofs.Heights.{height_or, height_same}
use Rattle.styles.proofs.font.size.Goals as goal

pub float_to_bits-result : goal.float_to_bits-result
unfolding size
float_to_bits-result c = rw c.nearest_u32_to_f32.ensures (whole_number binary32 _)

pub returns : goal.returns
unfolding size
returns c = rw (c.nearest_u32_to_f32.ensures, c.unwrap_or-height.ensures, height_or c.font_height.result, c.font_height.ensures.answer, to_z-of_z w32 c.args.font_size c.ranges.font_size, height_same c.args.font_size c.ranges.font_size)
