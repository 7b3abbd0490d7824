pub mod Lanes
pub mod Strips
