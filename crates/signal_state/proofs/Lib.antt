pub mod Laws
pub mod Acceptance
pub mod Choices
pub mod RoundTrip
pub mod OtherVersion
