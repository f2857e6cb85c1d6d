-- What ties the words that the code stores to the tree that reading by the rule gives.
pub mod IntoLists
pub mod Whole
