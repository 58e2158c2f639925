pub mod Folds
pub mod Stands
