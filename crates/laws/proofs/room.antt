-- Room: how long a value is at the most, of how long a text; and so when a buffer is never too short.
pub mod Told
pub mod Values
pub mod Digits
pub mod Decimals
pub mod Asked
pub mod Blocks
pub mod Called
