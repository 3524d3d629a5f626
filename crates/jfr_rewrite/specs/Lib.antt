pub mod Changed
pub mod Copying
pub mod Rewrite
pub mod Rewritten
pub mod Paths
pub mod Writing
