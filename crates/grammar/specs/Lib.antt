-- The grammar of typed searches as functions.
pub mod Stream
pub mod Symbols
pub mod Grammar
