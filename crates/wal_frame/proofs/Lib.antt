pub mod FieldLaws
pub mod KindLaws
pub mod FrameLaws
pub mod StreamLaws
pub mod BufferLaws
mod Common
