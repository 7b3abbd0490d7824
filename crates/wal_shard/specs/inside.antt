pub mod Replying
pub mod State
pub mod Vouching
