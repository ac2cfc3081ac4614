pub mod Entries
pub mod Kin
