-- The laws of the words of a list of members.
pub mod MembersRead
pub mod MemberIsolation
