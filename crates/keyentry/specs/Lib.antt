pub mod Hexadecimal
pub mod KeyEntry
pub mod Doubled
