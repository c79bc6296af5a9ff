pub mod Digits
pub mod Pieces
pub mod Families
pub mod Steadies
pub mod Passing
