pub mod Shards
pub mod Entering
pub mod Turning
pub mod Placing
pub mod Puts
pub mod Firsts
pub mod ReplyTexts
pub mod ReadWords
pub mod Symbols
pub mod Recoveries
pub mod LetterLaws
pub mod Worlds
pub mod Replaying
pub mod Tallies
pub mod Summaries
pub mod WriteEnds
pub mod WriteSteps
mod Common
