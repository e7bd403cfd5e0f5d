pub mod Faults
pub mod Finding
pub mod Frames
pub mod Ledger
pub mod Names
pub mod Notes
pub mod Reads
