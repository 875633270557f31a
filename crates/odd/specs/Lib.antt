pub mod Darkness
pub mod Keeping
