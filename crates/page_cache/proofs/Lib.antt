pub mod Keeping
pub mod InSlots
pub mod Used
