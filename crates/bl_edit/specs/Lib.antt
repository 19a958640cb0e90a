pub mod Bounds
pub mod Found
pub mod Laws
pub mod Options
pub mod Reading
pub mod Spelling
