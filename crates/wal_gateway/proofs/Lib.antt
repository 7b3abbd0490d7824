pub mod Sound
pub mod Runs
pub mod Endings
pub mod RequestLaws
pub mod OneRun
mod Common
