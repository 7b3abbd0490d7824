pub mod Laws
pub mod Saying
pub mod Total
