pub mod Answers
pub mod Texts
pub mod Works
pub mod Runs
