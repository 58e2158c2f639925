pub mod Laws
pub mod View
pub mod Left
pub mod Clean
pub mod Delivered
pub mod Room
