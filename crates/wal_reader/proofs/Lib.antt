pub mod Gathering
pub mod FirstOnes
pub mod Enough
pub mod Collections
pub mod OneOutcome
mod Answered
mod KnownLaws
mod SiftLaws
mod HeardLaws
mod SettledLaws
mod LongestLaws
pub mod IntakeLaws
pub mod StandingLaws
pub mod ClaimLaws
mod HeldSlivers
pub mod PayloadBytes
mod Common
