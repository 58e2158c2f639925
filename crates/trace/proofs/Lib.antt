pub mod Laws
pub mod Lengths
pub mod Fits
pub mod Texts
