pub mod Giving
pub mod Keeping
pub mod Lending
pub mod Slots
