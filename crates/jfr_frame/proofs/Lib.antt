mod FindLaws
pub mod FramingLaws
mod Reading
pub mod RecordLaws
mod Rows
mod StartLaws
mod UsualHeads
pub mod WrittenRecords
