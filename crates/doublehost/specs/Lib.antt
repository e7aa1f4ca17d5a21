pub mod DoubleLength
pub mod Laws
