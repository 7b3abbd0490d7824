pub mod Draw
pub mod Answer
pub mod Verdict
pub mod inside
