mod Example
mod Reading
mod Types
mod Walking
mod Room
mod Joining
mod Rising
mod Agreeing
pub mod Laws
