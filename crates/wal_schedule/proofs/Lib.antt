mod Drawing
mod Elements
mod SampleRange
pub mod SpelledBytes
mod WrittenText
mod Common
