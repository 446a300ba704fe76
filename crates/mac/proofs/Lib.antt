pub mod Spans
pub mod Codes
