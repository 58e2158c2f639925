pub mod Rows
pub mod Exactly
pub mod Cases
pub mod Cut
