-- Why the rules answer as the grammar's do ..
pub mod LevelsLaws
pub mod RulesLaws
-- .. and the reader as the whole text's answer says, with its codes as a selection.
pub mod WholeLaws
pub mod SelectionsLaws
