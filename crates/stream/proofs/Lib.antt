pub mod Starts
pub mod Laws
pub mod Split
pub mod Finished
pub mod Giving
pub mod Keeping
pub mod Cut
