-- What ties the readers of the Header, of the sections before the dimensions and of the end to the member's rule.
pub mod Refusals
pub mod Header
pub mod Ends
pub mod Opening
