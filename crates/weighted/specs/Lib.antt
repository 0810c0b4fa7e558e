pub mod Weighing
pub mod Weighs
