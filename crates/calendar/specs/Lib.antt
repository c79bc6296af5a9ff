pub mod Falls
pub mod Pairs
