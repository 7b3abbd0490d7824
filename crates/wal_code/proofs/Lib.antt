pub mod Codes
pub mod Differences
pub mod Evaluation
pub mod Fractions
pub mod Points
pub mod Tables
pub mod Totals
pub mod Words
mod Common
