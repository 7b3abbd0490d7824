pub mod CommandLine
pub mod Task
pub mod inside
