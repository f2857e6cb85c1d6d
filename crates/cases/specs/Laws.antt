-- The laws of the steps and of the calls.
pub mod Digits
pub mod Goods
pub mod Agree
pub mod Quick
pub mod Loop
pub mod Canonical
pub mod Answering
pub mod Lasting
