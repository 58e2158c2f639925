pub mod Decibels
pub mod Bars
pub mod Claims
