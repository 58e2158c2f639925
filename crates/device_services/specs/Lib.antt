pub mod DeviceServices
pub mod Claims
