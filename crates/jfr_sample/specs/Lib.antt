pub mod Metadata
pub mod Sample
