pub mod PlayedLaws
pub mod GrowLaws
pub mod SizeLaws
pub mod AnswerLaws
pub mod ReportedLaws
