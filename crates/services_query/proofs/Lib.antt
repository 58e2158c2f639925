pub mod Answers
pub mod OnePass
