pub mod Tails
pub mod Plain
pub mod Places
