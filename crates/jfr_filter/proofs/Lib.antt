pub mod AnyLaws
mod GlobLaws
mod IndexLaws
pub mod KeepLaws
pub mod TextsLaws
mod NameLaws
mod Rows
mod SplitLaws
mod OptionLaws
