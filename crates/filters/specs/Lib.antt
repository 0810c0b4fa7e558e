pub mod Envelopes
pub mod Turning
pub mod Tallies
pub mod Cases
