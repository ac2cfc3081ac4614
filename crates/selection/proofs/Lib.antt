pub mod CodeLoopsLaws
pub mod PhrasesLaws
pub mod PartSearchLaws
pub mod MildOverNotLaws
pub mod OccursOverOtherLaws
