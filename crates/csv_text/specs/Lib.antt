pub mod Between
pub mod Reader
pub mod Records
pub mod Rows
