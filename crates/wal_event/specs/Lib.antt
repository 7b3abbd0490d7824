pub mod Event
pub mod Report
