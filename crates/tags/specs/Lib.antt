pub mod Kinds
pub mod Asked
pub mod OneShot
pub mod Tag
