-- What is proved of whole members: demand 3 and the refusals.
pub mod Checked
pub mod Demanded
pub mod MemberUses
pub mod ValidValues
pub mod RecordsSpelt
pub mod NoCells
-- a member by computation
pub mod AcceptedExample
