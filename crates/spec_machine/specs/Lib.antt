pub mod Histories
pub mod Machine
pub mod Stages
pub mod World
