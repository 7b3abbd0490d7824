pub mod Additive
pub mod Algebra
pub mod Coefficients
pub mod Elements
pub mod Instance
pub mod Inverses
pub mod Lagrange
pub mod Polynomials
pub mod Powers
pub mod Products
pub mod Remainders
pub mod Roots
pub mod Sums
pub mod TwoWays
mod Common
