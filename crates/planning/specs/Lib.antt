pub mod Alike
pub mod Entry
pub mod Exists
pub mod Laying
pub mod Lengths
pub mod Tries
pub mod Worked
