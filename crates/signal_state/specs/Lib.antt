pub mod SignalState
pub mod Claims
