pub mod Pages
pub mod inside
