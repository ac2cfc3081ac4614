-- What the reader's contracts say.
pub mod Levels
pub mod Selections
