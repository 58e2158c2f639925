pub mod Refused
pub mod NumberZero
