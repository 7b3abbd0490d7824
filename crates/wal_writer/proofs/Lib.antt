pub mod Messages
mod Common
