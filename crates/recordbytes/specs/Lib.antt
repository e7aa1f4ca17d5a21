pub mod Parts
pub mod RecordBytes
pub mod Calls
pub mod Records
