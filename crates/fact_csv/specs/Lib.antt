pub mod Batch
pub mod Drafts
pub mod Gathered
