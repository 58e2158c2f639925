pub mod Accepts
pub mod Back
pub mod Transferred
pub mod Wired
pub mod Settled
pub mod Demand
