pub mod Laws
pub mod RoundTrip
pub mod OtherVersion
pub mod Hspa
pub mod Acceptance
