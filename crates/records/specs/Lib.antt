pub mod Adding
pub mod Heads
pub mod Goods
pub mod Lines
