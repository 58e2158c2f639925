pub mod Packets
pub mod Versions
pub mod Ranges
pub mod Registrations
pub mod SetPins
pub mod PinInfos
