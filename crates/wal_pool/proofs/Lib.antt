pub mod OverwriteLaws
mod StateLaws
mod PoolLaws
pub mod PageLaws
mod Common
