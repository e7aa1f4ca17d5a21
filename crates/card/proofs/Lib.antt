-- The steps of the proofs, and the laws that docs/RULES.md cites.
mod Derivations
mod DoubleKeys
mod Paddings
pub mod Laws
