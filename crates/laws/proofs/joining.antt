-- Joining: what segments mean together, and the joining law.
pub mod Joining
pub mod Joins
pub mod Walked
pub mod Ready
pub mod JoiningLaw
pub mod Segments
pub mod Strung
pub mod Parts
