pub mod Lookups
pub mod Entered
pub mod Stepped
pub mod Agreement
pub mod Safety
pub mod Vouched
pub mod RunLaws
pub mod OneWord
pub mod OneStep
pub mod EveryWord
pub mod EveryEvent
mod Common
