-- The choices, their list and its sizes ..
pub mod BinomialLaws
pub mod CountsLaws
pub mod WithNotLaws
pub mod FromToLaws
-- .. and how they are written, from one string to the whole list.
pub mod FindsLaws
pub mod IncludesLaws
pub mod ExcludesLaws
pub mod JoinedLaws
pub mod ChoicesLaws
pub mod OutcomeLaws
