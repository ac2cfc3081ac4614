pub mod Edges
pub mod Candidates
pub mod Uncovered
pub mod Passing
pub mod Overlapping
