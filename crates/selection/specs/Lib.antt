pub mod Phrases
pub mod PartCodes
