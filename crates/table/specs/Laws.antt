-- What ties the words that the code stores to the trees: the readers.
pub mod Within
pub mod InMember
pub mod Heads
pub mod OwnPart
pub mod Nodes
pub mod Dims
