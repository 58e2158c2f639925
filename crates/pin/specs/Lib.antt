pub mod PinInfo
pub mod PinInfoClaims
pub mod SetPin
pub mod SetPinClaims
