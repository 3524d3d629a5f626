mod Answered
pub mod Bare
mod Bodies
mod Categories
mod ElementsStand
mod FirstValues
mod Judging
mod NamedLaws
mod NameLaws
mod OneDescription
mod Parts
mod Runs
mod Table
pub mod Texts
pub mod Told
mod WrittenLaws
pub mod ReadBack
mod Rows
pub mod Lists
pub mod Alike
pub mod SlimClasses
pub mod Tables
pub mod SlimLaws
pub mod StayLaws
mod PutsLaws
mod HeldLaws
mod NewTableLaws
pub mod Depths
pub mod WithinLaws
mod RewriteLaws
