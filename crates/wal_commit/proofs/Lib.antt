pub mod Clashes
pub mod Commitments
pub mod Holding
pub mod LeafTables
pub mod Columns
pub mod HonestOpenings
pub mod Bodies
pub mod Crossings
pub mod Symbols
pub mod OneDigest
pub mod MetadataBytes
mod Common
