pub mod FalseOpenings
pub mod FalseSlivers
pub mod FirstOfEach
pub mod Marked
pub mod OneCheck
pub mod OneLine
pub mod Openings
pub mod Pieces
pub mod ProofSizes
pub mod SameOrNot
pub mod Verdicts
mod Common
