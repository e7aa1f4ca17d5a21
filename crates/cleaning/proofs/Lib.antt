mod Pass
pub mod Counting
pub mod Laws
pub mod Answering
