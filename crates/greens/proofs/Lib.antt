pub mod Circle
pub mod Counts
pub mod Made
pub mod Turns
