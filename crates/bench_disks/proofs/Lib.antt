mod Calling
mod Cutting
mod Newest
mod Reading
mod Lawful
