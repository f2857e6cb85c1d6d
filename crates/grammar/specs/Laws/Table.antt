-- What is proved from Table.antt, Records.antt and Rules.antt.
-- trees and bytes
pub mod Lengths
pub mod LeastBytes
pub mod RecordsPoint
pub mod Groups
-- the rules
pub mod KeptTable
pub mod RuleBounds
pub mod RulesExamples
-- words of records
pub mod Words
pub mod Leaves
