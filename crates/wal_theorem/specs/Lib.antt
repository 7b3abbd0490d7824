pub mod Instance
pub mod Lines
pub mod OfBytes
