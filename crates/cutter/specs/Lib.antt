pub mod Cut
pub mod Transaction
pub mod Claims
