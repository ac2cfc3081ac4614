pub mod EverySecond
pub mod Blocks
