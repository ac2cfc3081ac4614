-- The demands, proved ..
pub mod Demand1
pub mod Demand2
pub mod Demand3
pub mod TypedSearches
pub mod SpansRead
pub mod OccursChosen
pub mod EarlyWayOut
pub mod Headings
pub mod WordFamilies
-- .. and the laws of their words.
pub mod WordsLaws
pub mod SpelledLaws
pub mod TableLaws
pub mod NumbersLaws
