pub mod Password
