pub mod SignedHalves
pub mod Printing
pub mod Separating
