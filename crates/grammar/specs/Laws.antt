-- What follows from the definitions beside this file, with no code in it.
-- every layout: readings, refusals, rules
pub mod Layout
-- numbers that stand once each; the first repeat
pub mod Once
-- product, index and coordinates
pub mod Index
-- dimensions, axes and cells, their records and rules
pub mod Table
-- whole members
pub mod Member
