-- What the functions of this crate share, callees first.
pub mod Running
pub mod Hexes
pub mod UnitLaws
pub mod AnyCharacter
pub mod Turns
pub mod Readings
