pub mod Auditing
pub mod Broken
pub mod Fitting
pub mod Kept
pub mod Numbers
pub mod Packed
