pub mod Stored
pub mod LentAssembly
