pub mod Fronts
pub mod Laws
pub mod Listing
pub mod Restoring
pub mod Snapshots
pub mod Versions
