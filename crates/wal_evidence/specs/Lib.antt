pub mod BadProof
pub mod Evidence
pub mod FirstOfEach
pub mod inside
