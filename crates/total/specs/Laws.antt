-- The laws of totals.
-- the theorems of T-01
pub mod TableTotal
pub mod Extremes
pub mod OneByOne
pub mod ByDerivation
pub mod Places
pub mod Below
-- sums over cells, and over the words of their records
pub mod Sums
pub mod Words
pub mod MemberCells
pub mod Leaves
pub mod Under
pub mod LeafSums
-- a leaf, by what reading a member gives, is the derivation's
pub mod Leaf
pub mod Dims
pub mod LeafIs
-- all leaves in rows of words
pub mod Rows
pub mod LeafRows
-- the calls: the lists that a member is read into, the lent areas, the answers and their words
pub mod Reading
pub mod Areas
pub mod Call
pub mod AllCall
pub mod Doubles
pub mod Calls
