pub mod Tests
pub mod Verdicts
pub mod Bits
pub mod Classes
pub mod Services
