pub mod Sizes
pub mod Turned
pub mod Chosen
pub mod Examples
