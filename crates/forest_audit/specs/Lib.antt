pub mod Agreeing
pub mod Audited
pub mod Cost
pub mod Limits
pub mod Reading
pub mod States
pub mod Verdicts
