pub mod Views
pub mod Blocks
mod Images
pub mod Losing
mod Trails
mod Lists
