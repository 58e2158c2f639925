pub mod LentPins
pub mod LentModems
