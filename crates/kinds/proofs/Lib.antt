-- What the functions of this crate share, callees first.
pub mod Finding
pub mod Bounding
pub mod Tokens
pub mod Behind
