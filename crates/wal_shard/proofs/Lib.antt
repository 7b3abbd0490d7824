pub mod Changes
pub mod Soundness
pub mod PutLaws
pub mod Sizes
pub mod HeldLaws
pub mod ReplyLaws
pub mod KeepLaws
pub mod Pieces
pub mod OnePut
mod Common
