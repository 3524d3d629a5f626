pub mod Reports
pub mod Gathered
pub mod Demo
