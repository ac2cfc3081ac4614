-- What the scanner's contracts say.
pub mod Symbols
pub mod Scanned
