mod Convert
mod Rewrite
mod Sections
