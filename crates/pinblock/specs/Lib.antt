pub mod Pin
pub mod CardNumber
pub mod Reading
pub mod Entries
