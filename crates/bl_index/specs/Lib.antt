pub mod Index
pub mod Metering
