pub mod Inside
pub mod Sizes
pub mod Windows
