pub mod Derived
pub mod DerivativeLaws
pub mod Erased
pub mod LocatorLaws
pub mod Numbers
pub mod RunLaws
pub mod SolvedLaws
mod Common
