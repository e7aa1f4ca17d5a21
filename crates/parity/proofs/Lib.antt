mod Examples
pub mod Laws
pub mod LowBits
