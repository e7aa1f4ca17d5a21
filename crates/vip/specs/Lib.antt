pub mod Vip
