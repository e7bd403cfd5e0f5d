pub mod Keeps
pub mod Stops
