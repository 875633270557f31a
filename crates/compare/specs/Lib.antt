pub mod Differences
pub mod Outcomes
pub mod Compares
pub mod Lines
