pub mod AgreeLaws
pub mod AnswerLaws
pub mod ByteLaws
pub mod ChildLaws
pub mod DepthLaws
pub mod EndLaws
mod FitLaws
mod FlawLaws
pub mod FormLaws
pub mod InsideLaws
mod AppendLaws
mod FusedLaws
mod KeyPlaces
mod PlacedLaws
mod LastGroups
pub mod LeafKeys
pub mod LeafLaws
mod LeafVisitLaws
pub mod NodeForms
pub mod NodeLaws
pub mod PartLaws
pub mod PlaceLaws
pub mod RowLaws
mod Rows
pub mod StackLaws
mod SkipLaws
pub mod LayoutEnds
pub mod LayoutLaws
pub mod StringLaws
mod TakingLaws
pub mod TargetLaws
mod TextKeys
mod TreeLaws
pub mod VisitLaws
pub mod WalkLaws
mod ChildrenLaws
mod NextLeaf
mod NumberLaws
mod PreludeLaws
mod ReferenceLaws
