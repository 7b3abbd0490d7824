pub mod Holding
pub mod Putting
pub mod Vouching
pub mod Keeping
pub mod State
pub mod Replying
pub mod inside
