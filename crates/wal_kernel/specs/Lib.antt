pub mod Region
pub mod inside
