pub mod Lists
pub mod OneHead
pub mod Votes
mod Common
