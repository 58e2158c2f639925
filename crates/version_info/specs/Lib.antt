pub mod VersionInfo
pub mod Claims
