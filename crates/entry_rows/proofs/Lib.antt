pub mod Signals
pub mod Services
pub mod Lengths
