pub mod Assembly
pub mod Run
pub mod Door
