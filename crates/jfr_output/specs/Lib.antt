pub mod Agreements
pub mod Metadata
pub mod RemainingRecords
pub mod Pools
pub mod Positions
pub mod Recordings
pub mod Remaining
