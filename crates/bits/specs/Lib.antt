pub mod Bodies
pub mod Pens
