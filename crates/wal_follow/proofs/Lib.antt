pub mod Entries
pub mod KeepsUp
