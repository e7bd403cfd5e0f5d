pub mod Selection
pub mod Standing
pub mod Trees
pub mod Views
