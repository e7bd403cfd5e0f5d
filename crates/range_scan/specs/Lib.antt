pub mod Ends
pub mod Meeting
pub mod Packed
pub mod Searching
pub mod Steps
pub mod Visits
