pub mod Answering
pub mod Answers
pub mod Costs
pub mod Leaves
pub mod Searching
