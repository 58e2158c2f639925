pub mod Registration
pub mod Claims
