pub mod Parts
pub mod Contents
pub mod Answer
pub mod Entries
pub mod Calls
pub mod Copies
pub mod Places
pub mod inside
