-- Laws for the callers: Laws. Examples has that of source document 003.
pub mod Laws
mod Examples
