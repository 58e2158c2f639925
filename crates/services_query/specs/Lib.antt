pub mod ServicesQuery
pub mod Claims
