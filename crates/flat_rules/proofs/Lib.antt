-- Why the rules answer as the grammar's do.
pub mod AnswersLaws
pub mod RangesLaws
pub mod PhrasesLaws
pub mod FiltersLaws
