pub mod Reading
pub mod Grammar
pub mod Sample
pub mod Writing
pub mod inside
