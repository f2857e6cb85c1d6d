-- In the order to read them in, beside document 02, T-08, and Unicode's table 3-6. Nothing here knows of code.
pub mod Table
pub mod Pages
pub mod Utf8
pub mod Convert
pub mod Laws
pub mod Examples
