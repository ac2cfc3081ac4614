-- What the reader's contracts say.
pub mod Copied
pub mod Written
pub mod State
