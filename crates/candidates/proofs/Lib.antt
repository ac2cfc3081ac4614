pub mod CandidatesLaws
pub mod EdgesLaws
pub mod UncoveredLaws
pub mod PassingLaws
