-- The card's keys and cryptograms, from the general to the particular.
pub mod DoubleKey
pub mod Turned
pub mod Derivation
pub mod Session
pub mod Padding
pub mod Algorithm3
pub mod Cryptograms
pub mod Entries
