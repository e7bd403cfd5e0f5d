pub mod Bytes
pub mod Cells
pub mod Entries
pub mod Runs
pub mod Stored
