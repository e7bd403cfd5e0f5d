pub mod Grouped
pub mod Keys
pub mod Ranks
pub mod Sound
