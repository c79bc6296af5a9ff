-- Cutting: white space, openings, segments, and where a search for the closing mark stops.
pub mod Arguments
pub mod Gaps
pub mod Openings
pub mod Alone
pub mod BodyStops
pub mod EscapeStops
pub mod WholeRefused
pub mod UnicodeOff
pub mod UnicodePassed
pub mod Closings
pub mod UnicodeOn
pub mod ClauseStops
pub mod ClauseFacts
pub mod ClauseRefused
pub mod Cuts
pub mod Spelled
pub mod Fronted
