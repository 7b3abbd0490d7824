pub mod Field
pub mod Interpolation
pub mod Laws
pub mod Polynomial
