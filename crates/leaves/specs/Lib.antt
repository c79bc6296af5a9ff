pub mod Runs
pub mod Puts
pub mod Blocks
pub mod Digits
pub mod Words
