pub mod Marked
pub mod Heads
pub mod Replay
pub mod Claims
