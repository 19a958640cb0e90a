pub mod Lines
pub mod Parsing
pub mod Printing
pub mod Limits
