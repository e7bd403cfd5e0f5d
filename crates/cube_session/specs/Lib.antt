pub mod Auditing
pub mod Damage
pub mod Session
