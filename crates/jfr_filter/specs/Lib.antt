pub mod Filters
pub mod Indexes
pub mod Options
pub mod Patterns
pub mod Walks
