mod AnswerLaws
mod AsciiLaws
mod DecodingSteps
mod EqualLists
mod IntegerSteps
pub mod KeylessLaws
mod ListSteps
pub mod ReadSteps
mod Rows
mod ShortUnits
mod SpellLaws
pub mod StringLaws
mod TopBits
