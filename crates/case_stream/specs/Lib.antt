pub mod Stream
pub mod Machine
pub mod Cuts
pub mod Laws
