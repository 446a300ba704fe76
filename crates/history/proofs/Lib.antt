pub mod Parts
pub mod Frames
pub mod Goings
pub mod Whole
pub mod Likeness
