mod PieceLaws
mod MeasureLaws
mod CheckpointLaws
mod BodyLaws
mod FitLaws
mod GallopingLaws
mod RunLaws
mod CopiedLaws
mod AllCopied
mod CountLaws
pub mod AgainLaws
mod HeadlineLaws
mod EndsWell
mod PartLaws
pub mod AgreementLaws
