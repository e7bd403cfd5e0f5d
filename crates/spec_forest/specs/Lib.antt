pub mod Forest
pub mod Storable
