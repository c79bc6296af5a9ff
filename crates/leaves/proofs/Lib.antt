pub mod Scans
pub mod RunSteps
pub mod Shown
pub mod Putting
pub mod Sums
pub mod WordFlags
pub mod Chunks
pub mod Starts
