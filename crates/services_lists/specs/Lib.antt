pub mod ServicesLists
pub mod Claims
