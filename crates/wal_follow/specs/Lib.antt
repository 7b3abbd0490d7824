pub mod Outcomes
pub mod Enter
pub mod Ledger
pub mod Told
