pub mod Good
pub mod Request
pub mod Claims
