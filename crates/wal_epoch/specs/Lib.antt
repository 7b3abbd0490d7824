pub mod Committee
pub mod States
pub mod Moves
