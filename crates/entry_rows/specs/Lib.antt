pub mod Signals
pub mod Services
