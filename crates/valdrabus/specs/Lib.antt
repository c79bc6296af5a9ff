pub mod Numbers
pub mod Calls
pub mod Views
pub mod Version
