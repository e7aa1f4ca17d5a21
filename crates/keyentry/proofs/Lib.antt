mod Doublings
mod Sizes
mod Pairs
pub mod Texts
pub mod Laws
