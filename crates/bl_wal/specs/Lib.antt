pub mod Causes
pub mod Held
pub mod Laws
pub mod LogFile
pub mod Replay
