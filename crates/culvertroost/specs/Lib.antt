pub mod Packets
pub mod Registrations
pub mod Signals
pub mod Services
pub mod Modems
pub mod Pins
