pub mod MetadataReading
pub mod ProofReading
