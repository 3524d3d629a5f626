pub mod Members
mod Rounds
pub mod SweepLaws
pub mod Counts
mod ClosureLaws
pub mod PutLaws
pub mod WalkLaws
pub mod MarkLaws
pub mod PuttingLaws
