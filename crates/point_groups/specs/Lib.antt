pub mod Bare
pub mod Closed
pub mod Columns
pub mod Folded
pub mod Held
pub mod Joins
pub mod Kept
