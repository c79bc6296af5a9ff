pub mod Marks
pub mod Openings
pub mod Segments
