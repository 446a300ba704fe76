pub mod Kinds
pub mod Layout
pub mod Reading
pub mod Sealing
