pub mod Lent
pub mod Version
