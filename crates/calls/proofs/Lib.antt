pub mod WholeLaws
pub mod ListingLaws
pub mod QuickLaws
