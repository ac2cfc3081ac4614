pub mod SizesLaws
pub mod TurnedLaws
pub mod SideLaws
pub mod ChoicesLaws
