-- Lists, tests, digits, halves, and texts put into buffers: facts that no subject owns.
pub mod Tests
pub mod Lists
pub mod Alike
pub mod Enclosures
pub mod Digits
pub mod Halves
pub mod Copies
pub mod Enclosed
pub mod Laying
