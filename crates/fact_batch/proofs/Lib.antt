pub mod Drafts
pub mod Flats
pub mod Pushes
pub mod Texts
