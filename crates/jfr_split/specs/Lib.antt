pub mod Names
pub mod Parts
pub mod Splits
pub mod Joins
pub mod Clauses
pub mod Laws
pub mod Groups
