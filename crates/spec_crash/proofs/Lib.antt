pub mod Formats
pub mod Once
pub mod Stops
