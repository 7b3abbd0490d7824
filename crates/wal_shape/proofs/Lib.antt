pub mod OwnersLaws
pub mod ShapeLaws
pub mod Numbers
pub mod MetadataLaws
pub mod Codecs
pub mod BodyLaws
pub mod ProofLaws
mod Common
