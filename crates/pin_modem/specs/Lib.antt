pub mod PinModem
pub mod Claims
