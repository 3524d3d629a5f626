pub mod ChainAnswers
pub mod Chunks
mod EventReading
pub mod AllLaws
mod AnswerLaws
pub mod BoundLaws
pub mod CountLaws
mod EndLaws
mod InertLaws
mod KeptLaws
pub mod MeaningLaws
mod RefLaws
mod KeyLaws
mod NotedLaws
mod PartsLaws
pub mod PathLaws
pub mod ReachLaws
pub mod ReachedLaws
pub mod Reading
mod RefusalRows
pub mod RootLaws
mod SeenLaws
pub mod StageLaws
pub mod HasNodesLaws
pub mod TestLaws
pub mod TextMaps
mod UsedLaws
mod FilterRows
mod ThreadRows
mod RingRows
mod WindowRows
mod Rows
