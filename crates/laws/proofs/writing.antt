-- Writing: what each writer writes, its parts, and that it reads back.
pub mod Written
pub mod Unchanged
pub mod Writers
pub mod FormUnits
pub mod Figures
pub mod Spellings
pub mod EscapeUnits
pub mod UnicodeUnits
pub mod FormSpelling
pub mod WriterParts
pub mod PartEnds
pub mod WriterText
pub mod FormText
pub mod WrittenParts
pub mod RoundTrip
pub mod FormRoundTrip
pub mod LongForms
