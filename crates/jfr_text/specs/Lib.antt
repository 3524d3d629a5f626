pub mod Characters
pub mod Spans
pub mod Strings
