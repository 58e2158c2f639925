pub mod RoundTrip
pub mod Owned
pub mod Lists
