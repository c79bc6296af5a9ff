pub mod PlainBytes
pub mod Leading
pub mod ByPlaces
pub mod PlaceScans
pub mod Pushing
pub mod States
pub mod StdUtf8
