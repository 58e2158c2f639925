pub mod Rows
pub mod Text
pub mod Asked
pub mod Effects
pub mod Consequences
pub mod Unseen
pub mod Runs
pub mod Cases
