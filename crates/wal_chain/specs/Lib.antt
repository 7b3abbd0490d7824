pub mod Chain
pub mod Votes
pub mod Fork
