pub mod Records
mod Past
pub mod NeverBad
mod HeldLaws
mod Moments
mod PackLaws
mod Common
