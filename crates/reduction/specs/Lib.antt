pub mod Layout
pub mod Stretch
pub mod Worked
pub mod AnswerLaws
