mod ChMaj
pub mod LaneLemmas
pub mod Parts
pub mod Blocks
pub mod Written
pub mod Taken
mod Common
