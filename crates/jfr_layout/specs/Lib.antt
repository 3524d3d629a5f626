pub mod Classes
pub mod Names
pub mod Events
pub mod Fused
pub mod Resolved
pub mod Laws
pub mod Staying
