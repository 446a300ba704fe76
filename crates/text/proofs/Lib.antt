pub mod Cuts
mod LastDigit
mod Pairs
