pub mod FirstOfEach
pub mod Marks
