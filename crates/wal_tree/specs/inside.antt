pub mod Path
pub mod Stack
pub mod Stacks
pub mod Tree
