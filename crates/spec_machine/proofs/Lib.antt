pub mod Acts
pub mod Histories
pub mod Levels
pub mod Outcomes
