pub mod MemberWords
