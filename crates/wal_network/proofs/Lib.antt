pub mod Keeping
pub mod Walk
pub mod Leading
pub mod Prefix
pub mod Landing
pub mod Whole
mod Common
pub mod Safe
pub mod Honest
