pub mod Rolling
pub mod Totals
