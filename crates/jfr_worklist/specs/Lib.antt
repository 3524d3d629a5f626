pub mod Members
pub mod Marks
pub mod Worklists
pub mod Putting
