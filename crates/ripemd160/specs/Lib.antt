pub mod Orders
pub mod Once
pub mod Round
pub mod Means
pub mod Vectors
