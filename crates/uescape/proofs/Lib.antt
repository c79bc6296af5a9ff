pub mod Characters
pub mod Clausing
