-- The laws by which a function that reads a layout is proved from what its callees ensure: `search reads` applies them.
use Rattle.layout.specs.Steps.Chain.{then, empty_of, nothing_of}
use Rattle.layout.specs.Steps.Numbers.{free_of, tested_of, switch_of, yes_of, no_of}
use Rattle.layout.specs.Steps.Counted.{string_of, region_of}
use Rattle.layout.specs.Steps.Runs.{leading_of}
pub mod Chain
pub mod Numbers
pub mod Counted
pub mod Runs
pub mod Fields
pub mod Fixed
pub mod Rows
pub mod Keeping
pub mod Slices
pub mod Spelt
pub mod Numbered
pub mod Cycle
pub mod Onward

pub ruleset reads = (then, free_of, tested_of, string_of, nothing_of, switch_of, region_of, leading_of, yes_of, no_of, empty_of)
