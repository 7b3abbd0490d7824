pub mod Words
pub mod Call
pub mod Codes
pub mod Causes
pub mod Room
pub mod inside
