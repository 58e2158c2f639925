pub mod Refusal
pub mod Verdict
pub mod DataClass
pub mod MessageType
pub mod Service
pub mod Status
