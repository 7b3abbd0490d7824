pub mod Message
pub mod inside
