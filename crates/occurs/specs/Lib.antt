pub mod Finds
pub mod Binomial
pub mod WithNot
pub mod Counts
pub mod Writing
