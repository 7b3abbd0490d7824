pub mod Blocks
pub mod Degrees
pub mod Lanes
pub mod ProductDegrees
pub mod SkewLaws
pub mod Steps
pub mod StripLaws
pub mod Values
mod Common
