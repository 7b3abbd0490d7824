pub mod Lists
pub mod LevelLaws
pub mod AnswerLaws
pub mod VerdictLaws
pub mod Collides
mod Common
