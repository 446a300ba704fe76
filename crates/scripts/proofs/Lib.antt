mod Calling
mod Fields
mod Formed
mod Lines
mod Names
mod Playing
mod Replying
mod Writing
