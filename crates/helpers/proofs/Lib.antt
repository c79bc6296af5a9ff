-- What the functions of this crate share, callees first.
pub mod Validity
pub mod Identifiers
