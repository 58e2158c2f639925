pub mod Received
pub mod Carried
pub mod Left
pub mod Lent
pub mod AsByValue
pub mod Moves
