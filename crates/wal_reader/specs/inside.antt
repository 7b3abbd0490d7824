pub mod Intake
pub mod Longest
pub mod Outcome
