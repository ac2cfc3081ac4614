-- The counting that a unit names.
pub mod Units
