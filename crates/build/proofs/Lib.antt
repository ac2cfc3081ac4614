pub mod StepsLaws
pub mod CodesLaws
pub mod WordsLaws
pub mod WaitingTreesLaws
pub mod BuildLaws
