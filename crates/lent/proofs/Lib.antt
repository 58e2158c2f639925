pub mod Memory
pub mod GoingOn
