pub mod Committing
pub mod Dropping
pub mod Reading
pub mod Taking
