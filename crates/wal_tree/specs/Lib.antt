pub mod Collision
pub mod Digests
pub mod Laws
pub mod Path
pub mod Stack
pub mod Stacks
pub mod Tree
pub mod inside
