pub mod Batch
pub mod Rows
pub mod Values
