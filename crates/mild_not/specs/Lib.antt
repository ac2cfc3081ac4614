pub mod Uncovered
pub mod Keeps
