pub mod ServicesTrip
pub mod ListsTrip
