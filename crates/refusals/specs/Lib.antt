pub mod Listed
pub mod Numbers
pub mod Verdicts
pub mod Reasons
