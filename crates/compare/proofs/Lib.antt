mod Blocks
mod Comparing
mod Listing
mod Turns
