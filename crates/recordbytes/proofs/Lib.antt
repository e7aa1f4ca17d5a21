-- What readers cite: Laws, and Theorem for demand 3. The others are steps of the proofs here and of each device's calls.
pub mod Cutting
pub mod Bytes
pub mod Laws
pub mod Calling
pub mod Theorem
