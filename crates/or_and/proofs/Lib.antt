pub mod AndLaws
pub mod OrLaws
