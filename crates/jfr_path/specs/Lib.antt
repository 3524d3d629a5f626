pub mod Places
pub mod Strings
pub mod Threads
pub mod Times
pub mod Verdicts
