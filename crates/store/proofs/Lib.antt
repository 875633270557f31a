mod Bits
pub mod Fields
mod Groups
pub mod Looking
pub mod Newest
pub mod Round
mod Tests
