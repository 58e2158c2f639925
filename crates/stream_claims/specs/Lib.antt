pub mod Pieces
pub mod Memory
