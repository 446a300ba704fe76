pub mod Round
pub mod Primes
pub mod Means
pub mod Groups
