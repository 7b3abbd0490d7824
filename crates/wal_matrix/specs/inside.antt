pub mod Front
pub mod Row
pub mod Strips
pub mod Sum
pub mod Tools
pub mod Turned
