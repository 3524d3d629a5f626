pub mod Accepted
mod Carried
pub mod ChangeLaws
mod CheckpointBack
pub mod CheckpointWriting
pub mod CopyLaws
mod Events
pub mod EventWriting
mod InForce
mod Made
pub mod LaidLeaves
pub mod MeaningLaws
pub mod NumberLeaves
pub mod OneToOneLaws
pub mod Output
pub mod PathLaws
pub mod Pools
mod RecordBack
pub mod Remaining
pub mod Rewriting
mod Rows
mod SizeLaws
pub mod Sizes
mod SpelledBack
mod UsedLaws
pub mod WritingLaws
