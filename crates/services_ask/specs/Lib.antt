pub mod ServicesAsk
pub mod Claims
