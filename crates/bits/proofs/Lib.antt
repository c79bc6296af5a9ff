-- What the functions of this crate share, callees first.
pub mod Asking
pub mod Bodies
pub mod Turns
pub mod Wholes
pub mod Found
pub mod Radix
pub mod Inking
pub mod Runs
pub mod Packings
