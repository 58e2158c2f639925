pub mod Transfer
pub mod Wire
pub mod Settle
pub mod Demand
