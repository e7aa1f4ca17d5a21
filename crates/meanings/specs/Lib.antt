pub mod Ascii
pub mod Meanings
