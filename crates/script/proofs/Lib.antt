pub mod Dividing
mod Reading
mod Spelling
mod Scheduling
