pub mod Agreeing
pub mod Answers
pub mod Grammar
pub mod Names
pub mod Parts
pub mod Reading
pub mod Values
pub mod Writing
