pub mod Ranges
pub mod Registrations
pub mod SetPins
pub mod Lengths
