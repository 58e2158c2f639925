pub mod Message
pub mod Claims
