-- The meaning of document 01, in its order, with document 02's F-3 to F-6 ..
pub mod Limits
pub mod Lists
pub mod Section
pub mod Families
pub mod Selection
pub mod Kinds
pub mod Waiting
pub mod Trees
pub mod Matches
pub mod Rules
pub mod AllMatches
pub mod Checks
pub mod Walk
pub mod Answers
-- .. of typed searches, F-1 and F-3 ..
pub mod Bytes
pub mod Tokens
pub mod Productions
pub mod TextAnswer
pub mod Typed
pub mod TypedExamples
-- .. worked examples ..
pub mod Examples
-- .. and what the laws and the code's contracts say besides: no part of the meaning.
pub mod Parts
pub mod AllStrings
pub mod Choices
pub mod Accepted
pub mod Walked
