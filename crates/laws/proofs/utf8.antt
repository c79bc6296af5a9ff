-- UTF-8: characters, their encodings, and which texts are UTF-8.
pub mod Utf8
pub mod Abreast
pub mod Leads
pub mod Encode
pub mod Sequences
pub mod WhiteUtf8
pub mod WrittenUtf8
pub mod HelpersUtf8
