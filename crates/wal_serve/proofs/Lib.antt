pub mod TakingLaws
pub mod ServingLaws
pub mod Fronts
pub mod OneServed
pub mod OneEnd
pub mod OneTaken
pub mod OneTable
pub mod AnswerLaws
pub mod RoomLaws
pub mod KeptEpoch
pub mod NeverWants
mod Common
