pub mod Circle
pub mod Greens
pub mod Plans
pub mod Rounds
