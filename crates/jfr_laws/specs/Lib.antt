pub mod InChunk
pub mod Laws
pub mod Told
pub mod SameKept
