pub mod Deeds
pub mod Network
pub mod AsRun
pub mod Promised
