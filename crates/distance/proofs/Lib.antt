pub mod DistanceLaws
pub mod SortingLaws
