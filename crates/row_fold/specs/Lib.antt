pub mod Ascends
pub mod Folds
pub mod Joins
pub mod Laws
pub mod Lent
pub mod Merge
pub mod Squeezed
pub mod Taking
