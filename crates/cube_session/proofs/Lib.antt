pub mod Audits
pub mod Declarings
pub mod Names
pub mod Openings
pub mod Told
