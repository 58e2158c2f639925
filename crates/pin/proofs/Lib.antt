pub mod PinInfoLaws
pub mod SetPinParts
pub mod SetPinLaws
pub mod SetPinTrip
