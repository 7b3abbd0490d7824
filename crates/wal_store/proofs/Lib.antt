pub mod EntriesLaws
pub mod IdentifierLaws
pub mod CallLaws
mod Edits
mod StockLaws
mod TokenLaws
mod ChainLaws
mod TableLaws
mod KeptLaws
pub mod OrderLaws
mod OrderedLaws
mod RetainLaws
mod Common
