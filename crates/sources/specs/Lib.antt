pub mod Directions
pub mod Reach
pub mod Offers
pub mod Files
pub mod Meant
pub mod Pages
pub mod Memories
pub mod Cases
