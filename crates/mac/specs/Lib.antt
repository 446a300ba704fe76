pub mod Face
pub mod Plan
pub mod Promises
pub mod Stream
