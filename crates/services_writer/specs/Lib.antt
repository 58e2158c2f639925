pub mod ServicesWriter
pub mod Claims
