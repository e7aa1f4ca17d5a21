pub mod Keyed
pub mod Private
