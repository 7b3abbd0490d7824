pub mod Room
pub mod IndexTexts
pub mod Bundled
pub mod Agreement
pub mod Truths
mod Common
