pub mod AgreementLaws
pub mod CheckpointEntries
pub mod CursorLaws
pub mod MadeFile
pub mod MadeOutput
mod NewLaws
pub mod OutputRecordLaws
pub mod PoolLaws
pub mod PositionLaws
pub mod RecordingLaws
pub mod RemainingLaws
mod UsedLaws
pub mod Widths
