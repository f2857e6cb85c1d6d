-- In the order to read them in, beside source document 003 and document 01. Nothing here knows of code.

-- layouts: what a grammar, a derivation and the bytes of a derivation are
pub mod Layout
pub mod Conventions
-- the grammar of members (003)
pub mod Value
pub mod Sections
pub mod Table
-- what a derivation says: numbers that stand once each, the index of a cell, the records, the nodes below a node
pub mod Once
pub mod Index
pub mod Records
pub mod Below
-- a whole member, and what demand 3 asks of its derivation
pub mod Member
-- refusals: their numbers, where bytes fail a layout, tests beside a layout, those of document 01
pub mod Numbers
pub mod Fails
pub mod Rule
pub mod Rules
pub mod Refused
-- further notions that contracts and theorems are stated with
pub mod RecordWords
pub mod Strings
pub mod Part
pub mod Repeat
-- what is proved of all this
pub mod Laws
