pub mod Told
pub mod Quick
pub mod Packed
