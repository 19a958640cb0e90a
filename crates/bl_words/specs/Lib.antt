pub mod Ending
pub mod Laws
pub mod Options
pub mod Parsing
