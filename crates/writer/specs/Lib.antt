pub mod Manners
pub mod Texts
pub mod Parts
pub mod Bits
