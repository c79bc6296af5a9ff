pub mod Answers
pub mod Plain
pub mod Quick
pub mod Storing
pub mod Driving
