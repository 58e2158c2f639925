pub mod Tables
pub mod Decibels
pub mod Rows
