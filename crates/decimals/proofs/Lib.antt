pub mod Halving
pub mod Dividing
pub mod Decimals
pub mod Answering
pub mod Separating
pub mod DecimalText
