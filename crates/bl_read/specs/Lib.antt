pub mod Giving
pub mod Laws
pub mod Reading
pub mod Scan
pub mod Scanning
pub mod Sound
pub mod Turns
