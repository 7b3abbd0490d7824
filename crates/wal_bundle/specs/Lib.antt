pub mod Layout
pub mod Columns
pub mod Member
pub mod Contradictions
pub mod inside
