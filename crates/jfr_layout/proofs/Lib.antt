pub mod Lists
mod Indices
mod Stages
pub mod Numbered
mod NamesSeen
mod IdsSeen
mod FieldsKnown
mod FieldIndices
mod FieldLayouts
mod FusedLaws
mod Steps
mod Filled
mod Depth
mod Soundness
mod Events
pub mod SoundLaws
mod Rows
pub mod StayingLaws
