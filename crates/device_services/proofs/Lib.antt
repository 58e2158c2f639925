pub mod Laws
pub mod Acceptance
