pub mod Values
pub mod Marks
pub mod InChunk
pub mod Groups
pub mod Room
pub mod PoolBack
pub mod ReadBack
pub mod Checkpoints
pub mod Chains
pub mod Entries
mod Free
pub mod Copied
pub mod Metadata
pub mod Header
mod Front
pub mod Order
pub mod OutputRecords
pub mod Anew
pub mod Output
pub mod Lengths
pub mod Found
pub mod Agrees
pub mod Passing
pub mod Chosen
pub mod Premises
pub mod Quiet
mod Kept
pub mod Five
pub mod AnewLaws
pub mod Suits
pub mod Anews
pub mod Assembled
pub mod Whole
pub mod Rebuilt
mod Targets
pub mod Same
pub mod Listed
mod Regrouped
mod Rewritten
mod AllOutput
mod Again
mod Reslim
mod SlimAgain
mod Settles
mod Clocks
pub mod Scrubbed
mod SameTexts
pub mod Settled
pub mod ToldLaws
pub mod Outlines
pub mod PoolsAlike
pub mod KeptPairs
pub mod OnlyKept
mod Itself
