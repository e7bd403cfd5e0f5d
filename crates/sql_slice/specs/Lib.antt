pub mod Ends
pub mod Folding
pub mod Lists
pub mod Plans
pub mod RowFold
pub mod SqlRows
