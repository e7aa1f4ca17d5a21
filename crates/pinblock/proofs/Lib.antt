-- Laws for the callers: Laws. The others are steps of the proofs, and the examples of source document 000.
pub mod Laws
mod CardNumbers
mod Examples
mod HalfBytes
mod Pins
mod Readings
mod Writing
