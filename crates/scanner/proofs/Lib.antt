-- What the scanner's proofs rest on.
pub mod SymbolsLaws
pub mod ScannerLaws
