mod Alike
mod AlikeLedgers
mod Apart
mod Costs
mod Left
pub mod Reached
mod Rebuilt
mod Replies
mod Standing
mod Steps
mod Common
