-- Theorems over the definitions of `meaning`: `Theorems` states what is promised and names the law that proves it; the laws stand by subject.
pub mod Theorems
pub mod basics
pub mod utf8
pub mod walking
pub mod cutting
pub mod joining
pub mod places
pub mod dates
pub mod packing
pub mod room
pub mod writing
pub mod questions
pub mod tables
