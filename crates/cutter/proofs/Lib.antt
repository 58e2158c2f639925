pub mod Stored
pub mod Later
pub mod Whole
