pub mod Adding
pub mod Hexing
pub mod Digits
pub mod Heading
pub mod Goods
pub mod Lengths
pub mod Filling
