pub mod Paths
pub mod Roots
pub mod Sizes
pub mod Leaves
pub mod Honest
pub mod Collisions
pub mod Levels
mod Columns
pub mod LevelPairs
mod Common
