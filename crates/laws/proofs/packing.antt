-- [02 T-07] Bit strings as packed bytes, and back: bits as numbers of any width, digits and bytes, one segment of bits, the question, the reverse, both round
-- trips, joined segments, what calls return, and the digits of bytes.
pub mod Gathered
pub mod Digits
pub mod Segment
pub mod Asked
pub mod Reverse
pub mod Long
pub mod RoundTrip
pub mod Joined
pub mod Called
pub mod Figured
