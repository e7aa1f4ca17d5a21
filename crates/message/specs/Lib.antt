pub mod Fields
pub mod Records
pub mod Text
pub mod Gathered
