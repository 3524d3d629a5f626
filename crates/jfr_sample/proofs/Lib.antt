pub mod Lengths
mod PartLaws
mod Rows
mod WholeLaws
