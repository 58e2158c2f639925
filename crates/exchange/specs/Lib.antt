pub mod Messages
pub mod Collected
pub mod Delivery
pub mod Pass
pub mod Cases
pub mod Damage
pub mod Received
