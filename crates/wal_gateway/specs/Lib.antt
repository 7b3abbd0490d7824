pub mod Getting
pub mod Gotten
pub mod Kept
pub mod Ends
pub mod Requests
