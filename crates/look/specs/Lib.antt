pub mod Look
pub mod Values
pub mod Read
pub mod Answers
pub mod Refused
pub mod Laws
