pub mod SingleLength
pub mod Laws
