pub mod Creating
pub mod World
pub mod Ending
pub mod Summary
pub mod inside
