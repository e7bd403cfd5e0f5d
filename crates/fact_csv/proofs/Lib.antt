pub mod Agreements
pub mod Answers
pub mod Drafts
pub mod Gathering
pub mod Items
pub mod Rows
