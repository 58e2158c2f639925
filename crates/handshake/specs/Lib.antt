pub mod Versions
pub mod Commands
