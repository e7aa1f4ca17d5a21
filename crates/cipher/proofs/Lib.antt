-- For the callers: Laws and Xor, and the published examples in Vectors. The others are steps of the proofs.
pub mod Laws
pub mod Xor
pub mod Vectors
mod Exchanges
mod Feistel
mod Inverse
mod Linear
mod Merged
mod Parity
mod Permutation
mod Range
mod Recovered
mod RoundKeys
mod Tabled
mod Windows
