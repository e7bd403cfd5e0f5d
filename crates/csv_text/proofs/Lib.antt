pub mod AllRecords
pub mod RowTexts
pub mod Vectors
