pub mod Laws
pub mod Lengths
