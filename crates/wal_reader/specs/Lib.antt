pub mod Carried
pub mod Outcome
pub mod Found
pub mod Heard
pub mod Settled
pub mod Intake
pub mod Standing
pub mod inside
