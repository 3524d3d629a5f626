pub mod Decimal
pub mod Formats
pub mod Integer
pub mod Laws
pub mod Reasons
pub mod Texts
