pub mod Keys
pub mod Nested
