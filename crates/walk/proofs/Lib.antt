pub mod PartsLaws
pub mod WalkLaws
pub mod FilterLaws
