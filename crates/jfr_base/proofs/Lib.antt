pub mod AlikeLaws
pub mod Copies
pub mod DecimalLaws
pub mod Ends
pub mod Exact
pub mod ExactLaws
pub mod FormatLaws
mod Found
pub mod FreeLaws
pub mod Groups
pub mod HoldLaws
pub mod IntegerLaws
pub mod OnceLaws
pub mod OneAnswer
pub mod OneInt
pub mod Ranges
pub mod ReadLaws
mod Rows
pub mod RunLaws
pub mod FormatEnds
pub mod Shorts
pub mod Spelling
pub mod TextLaws
pub mod UnitLaws
pub mod Writing
