-- What memory holds ..
pub mod Layout
pub mod ValidStr
pub mod Stream
pub mod Slot
pub mod Stack
-- .. and what is written to it.
pub mod Put
pub mod Built
pub mod Outcome
pub mod Each
pub mod Lent
pub mod Indices
