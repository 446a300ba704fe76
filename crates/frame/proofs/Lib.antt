pub mod Bytes
pub mod Cut
pub mod Read
pub mod Law
