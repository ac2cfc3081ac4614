pub mod Steps
pub mod State
pub mod PartList
