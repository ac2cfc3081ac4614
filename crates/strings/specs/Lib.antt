pub mod Strings
pub mod Covering
