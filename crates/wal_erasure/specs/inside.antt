pub mod Derivative
pub mod Locator
pub mod Run
