pub mod Requests
pub mod Columns
pub mod Exactly
pub mod Cut
