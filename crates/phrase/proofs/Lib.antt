pub mod RowsLaws
pub mod StartsLaws
pub mod BlocksLaws
pub mod FindsLaws
pub mod KinLaws
