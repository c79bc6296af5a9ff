pub mod Closes
pub mod Names
pub mod Prefixes
pub mod Cuts
pub mod Follows
pub mod Cursors
