pub mod Jobs
pub mod Flushing
pub mod Laws
