pub mod Passing
mod Determined
