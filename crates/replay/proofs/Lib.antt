pub mod OneCall
pub mod Runs
