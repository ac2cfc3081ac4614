pub mod Starts
pub mod Blocks
pub mod Searches
