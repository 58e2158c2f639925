pub mod Parts
pub mod Words
pub mod Hex
pub mod Decimals
pub mod Tables
pub mod Cut
pub mod Ends
