pub mod Good
pub mod TraceLine
pub mod Claims
