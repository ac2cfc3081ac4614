pub mod OrderLaws
pub mod CheckLaws
pub mod RisesLaws
pub mod LooksLaws
