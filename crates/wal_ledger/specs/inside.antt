pub mod Book
pub mod Claims
pub mod Flags
pub mod Kept
pub mod Rows
pub mod Tally
