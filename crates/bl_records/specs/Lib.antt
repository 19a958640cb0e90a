pub mod Answers
pub mod Causes
pub mod Chance
pub mod FileReading
pub mod Held
pub mod Laws
pub mod Writing
pub mod WrittenFile
