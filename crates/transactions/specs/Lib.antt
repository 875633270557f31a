pub mod StoreAnswers
pub mod Stores
pub mod DiskWork
pub mod Calls
pub mod Holding
pub mod Slots
pub mod Examples
pub mod Recovery
