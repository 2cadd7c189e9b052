pub mod Bridge
pub mod Gaps
pub mod Rooms
pub mod Steps
pub mod Searches
pub mod Opening
pub mod Crowds
pub mod Sharing
