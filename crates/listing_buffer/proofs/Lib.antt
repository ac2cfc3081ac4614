pub mod ColumnsLaws
pub mod ColumnLoopLaws
pub mod ListingLaws
