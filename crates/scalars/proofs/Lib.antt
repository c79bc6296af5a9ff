pub mod Widths
pub mod Gathering
pub mod Encoded
