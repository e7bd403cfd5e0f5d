pub mod RegionEnds
pub mod RegionPoints
