pub mod Kinds
pub mod Output
