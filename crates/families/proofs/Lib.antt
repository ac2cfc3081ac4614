pub mod OrderLaws
pub mod EntriesLaws
pub mod KinLaws
pub mod TableLaws
