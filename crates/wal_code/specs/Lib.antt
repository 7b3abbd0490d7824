pub mod Codeword
pub mod Weights
pub mod inside
