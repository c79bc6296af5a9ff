-- What the functions of this crate share, callees first.
pub mod Unicodes
pub mod Dollars
pub mod Spelt
