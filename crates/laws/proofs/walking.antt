-- Walks: what holds of every step, where a loop stands that walks, and what a step can take.
pub mod Walks
pub mod StepBounds
pub mod Fores
pub mod Courses
pub mod Fronts
pub mod Passes
pub mod Short
