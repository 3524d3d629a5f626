mod Clauses
pub mod CutLaws
pub mod Cutting
mod Grows
mod Judges
pub mod Layouts
pub mod MadeHeaders
mod Numbers
mod Rows
pub mod Steps
