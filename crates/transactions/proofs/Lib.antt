mod Copying
pub mod Fair
pub mod Recovered
mod Slots
mod Tables
pub mod Ties
