pub mod Texts
pub mod Claims
