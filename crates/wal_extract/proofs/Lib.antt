pub mod Sizes
pub mod OneRoot
pub mod OneIdentifier
pub mod FalseParts
pub mod Contradictions
mod Common
