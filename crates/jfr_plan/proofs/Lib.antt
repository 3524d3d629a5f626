pub mod Walking
pub mod Leaving
pub mod EndsWell
pub mod Needs
mod Going
mod Staging
pub mod Failing
pub mod Clauses
mod Rows
pub mod Sound
