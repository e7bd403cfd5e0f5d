pub mod Changing
pub mod Texts
