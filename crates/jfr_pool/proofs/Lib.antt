pub mod Among
pub mod ChainLaws
mod ChainReading
mod EntryLaws
pub mod ForceLaws
mod IndexLaws
mod Listings
pub mod OneLaws
mod Rows
mod Seats
mod TableLaws
pub mod Targets
