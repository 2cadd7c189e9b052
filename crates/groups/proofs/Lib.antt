pub mod Chains
pub mod Sums
pub mod Least
pub mod Claims
pub mod Spare
