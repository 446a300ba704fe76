pub mod Roots
pub mod Rotations
