pub mod Rows
pub mod Finding
