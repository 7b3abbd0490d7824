pub mod Identifier
pub mod Laws
pub mod Leaves
pub mod Seen
pub mod Strips
