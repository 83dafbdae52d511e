pub mod Json
pub mod Lanes
