pub mod Laws
pub mod Standing
