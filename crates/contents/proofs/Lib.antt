mod Unread
mod Values
mod Figures
pub mod Laws
