pub mod Feeding
pub mod Feeds
pub mod LineReads
pub mod LongLines
pub mod SaidLines
pub mod Vectors
