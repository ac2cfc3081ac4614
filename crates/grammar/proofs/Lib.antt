-- What the code that reads a text rests on: the first token of a stream, and what a token's symbol says.
pub mod StreamLaws
pub mod SymbolsLaws
-- The grammar as functions says what the productions say. How a rule goes; whatever is derived is read; each rule of the grammar; ..
pub mod JoiningLaws
pub mod GoingLaws
pub mod RangesLaws
pub mod CompletingLaws
pub mod FlatRulesLaws
pub mod RulesLaws
-- .. a text's tokens; so every text has exactly one answer, which the functions compute.
pub mod TextsLaws
pub mod PartingLaws
pub mod WholeLaws
pub mod AnswerLaws
pub mod ExamplesLaws
