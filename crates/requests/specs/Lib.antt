pub mod Form
pub mod Input
pub mod Read
pub mod Reply
pub mod Stands
