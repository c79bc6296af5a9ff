-- [02 T-05] Dates: units one after the other, the calendar, the ten bytes of a day, the question, the order of days, joined text, and what calls return.
pub mod Counting
pub mod Calendar
pub mod Spelt
pub mod Asked
pub mod Ordered
pub mod Joined
pub mod Called
