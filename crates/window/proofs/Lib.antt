pub mod InsideLaws
pub mod JoinedLaws
pub mod SizesLaws
pub mod WindowsLaws
