pub mod Among
pub mod Groups
pub mod Laws
pub mod Members
pub mod Spares
pub mod Whys
