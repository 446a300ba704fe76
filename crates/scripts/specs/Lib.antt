pub mod Calls
pub mod Form
pub mod Making
pub mod Play
pub mod Reply
pub mod Script
pub mod Six
pub mod Told
