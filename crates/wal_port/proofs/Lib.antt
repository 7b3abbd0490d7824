pub mod Rooms
mod Common
mod Triples
