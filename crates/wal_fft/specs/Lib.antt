pub mod Transform
pub mod inside
