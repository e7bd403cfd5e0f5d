pub mod Exact
pub mod Held
pub mod Order
pub mod Places
pub mod Steps
pub mod Weights
