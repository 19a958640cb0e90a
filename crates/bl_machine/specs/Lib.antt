pub mod Writes
pub mod State
pub mod Step
pub mod History
pub mod Synced
pub mod Laws
pub mod Rows
