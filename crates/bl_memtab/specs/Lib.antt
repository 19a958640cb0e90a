pub mod Filled
pub mod Laws
pub mod Rows
pub mod Tables
