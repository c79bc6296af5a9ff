-- [02 T-04] The place of a refusal: in a segment, in joined text, in a whole text, in a temporal text, and as it is told.
pub mod Spelt
pub mod Bodies
pub mod EscapeStates
pub mod Alone
pub mod Joined
pub mod Whole
pub mod Temporal
pub mod Told
