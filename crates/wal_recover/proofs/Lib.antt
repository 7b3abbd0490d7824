pub mod OneRecovery
pub mod OneTaking
pub mod Proved
mod Common
