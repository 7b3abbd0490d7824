pub mod Lanes
pub mod Region
