pub mod Record
pub mod Laws
pub mod Recorded
pub mod Files
pub mod Kept
pub mod Moments
pub mod Bytes
pub mod Supply
