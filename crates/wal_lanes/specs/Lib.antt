pub mod Pieces
pub mod Strips
pub mod inside
