pub mod Walkable
pub mod Steps
