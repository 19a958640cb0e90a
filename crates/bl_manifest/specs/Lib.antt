pub mod Causes
pub mod Held
pub mod Laws
pub mod ManifestFile
pub mod Restores
