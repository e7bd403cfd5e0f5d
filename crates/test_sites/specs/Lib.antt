pub mod Changes
pub mod ChangesLaws
pub mod Put
pub mod ShortSite
pub mod SureSite
pub mod SureSource
