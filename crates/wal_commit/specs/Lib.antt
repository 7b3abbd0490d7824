pub mod Held
pub mod Identifier
pub mod inside
