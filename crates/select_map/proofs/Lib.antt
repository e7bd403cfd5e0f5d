pub mod Counts
pub mod Finds
pub mod Trees
pub mod Last
pub mod Fewest
pub mod Selected
pub mod TreeViews
