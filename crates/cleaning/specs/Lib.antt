pub mod Cleaning
pub mod Counts
pub mod Private
