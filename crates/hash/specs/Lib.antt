pub mod Meaning
pub mod Held
pub mod Meter
pub mod Words
pub mod Rounds
pub mod Windows
