-- What the contracts of the rules say.
pub mod Answers
