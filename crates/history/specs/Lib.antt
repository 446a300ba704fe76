pub mod History
pub mod Law
pub mod Alike
pub mod Keeps
pub mod Logs
