pub mod Sorting
pub mod Peeled
pub mod Forward
pub mod Merging
pub mod Endings
pub mod Merged
pub mod Ends
pub mod Examples
