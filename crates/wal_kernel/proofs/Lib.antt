pub mod Words
pub mod Regions
pub mod Sums
pub mod LaneLemmas
pub mod ProductLemmas
mod Common
