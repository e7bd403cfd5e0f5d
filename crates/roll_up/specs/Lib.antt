pub mod Bases
pub mod Children
pub mod Levels
pub mod Lifted
pub mod Parents
pub mod Reading
