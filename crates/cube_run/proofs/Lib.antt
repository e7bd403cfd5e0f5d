pub mod Going
pub mod Moments
pub mod Names
pub mod Running
pub mod Serving
pub mod Statuses
