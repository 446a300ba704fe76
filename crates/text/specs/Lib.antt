pub mod Decimal
pub mod Hex
pub mod Pieces
pub mod Room
