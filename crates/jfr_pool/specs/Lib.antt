pub mod Chains
pub mod Entries
pub mod Faults
pub mod Index
pub mod Laws
pub mod Listing
pub mod Tables
