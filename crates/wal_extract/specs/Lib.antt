pub mod Slivers
pub mod Blobs
pub mod Contrary
pub mod inside
