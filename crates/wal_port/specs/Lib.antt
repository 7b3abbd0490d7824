pub mod Faults
pub mod Plan
pub mod MemSource
pub mod MemSink
pub mod Adapters
pub mod Appending
pub mod Slices
