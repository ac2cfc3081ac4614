-- What the reader's proofs rest on.
pub mod TokensLaws
pub mod NumbersLaws
pub mod WrittenLaws
pub mod LentLaws
