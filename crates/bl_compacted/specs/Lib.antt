pub mod Shuffles
pub mod Pairs
pub mod Plans
pub mod Installing
pub mod Outputs
pub mod Compacting
pub mod Rewriting
pub mod Laws
