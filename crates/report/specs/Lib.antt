pub mod Text
pub mod Lines
pub mod MemberLine
pub mod Laws
pub mod Examples
