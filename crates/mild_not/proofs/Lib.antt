pub mod UncoveredLaws
pub mod KeepsLaws
