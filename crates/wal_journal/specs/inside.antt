pub mod Append
pub mod Held
pub mod Journal
pub mod Opening
pub mod Reading
pub mod Why
