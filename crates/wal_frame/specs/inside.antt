pub mod Front
pub mod Lending
