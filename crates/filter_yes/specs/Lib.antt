pub mod Gives
pub mod Windows
