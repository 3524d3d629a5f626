pub mod Laws
pub mod Records
pub mod Refused
pub mod Starts
pub mod Written
