-- What is written of a match.
pub mod Writing
