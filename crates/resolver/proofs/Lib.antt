pub mod Codes
pub mod Rungs
mod Bounded
mod Slices
mod Blocks
mod Appending
mod Heaps
mod Drawing
mod Pending
mod Descent
pub mod Premises
mod Best
mod Writing
mod Finding
mod Renewing
mod Next
mod Placing
mod Adding
mod TakesNext
mod Books
mod Seeking
mod Unready
pub mod Chains
