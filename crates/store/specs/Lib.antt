pub mod Layout
pub mod Bits
pub mod LogFields
pub mod LogValues
pub mod Headers
pub mod Log
pub mod LookValues
pub mod Looks
