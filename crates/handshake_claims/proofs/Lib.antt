pub mod Staying
pub mod Bounded
pub mod Refusing
pub mod Run
