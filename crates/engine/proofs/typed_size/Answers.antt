-- By the limit of 64 codes.
use borrow.Author.Tests.{le-leb, lt-leb}
use Rattle.engine.proofs.typed_size.Goals as goal

pub returns-then-codes-le-MAX_CODES : goal.returns-then-codes-le-MAX_CODES
returns-then-codes-le-MAX_CODES c = rw (le-leb _ _ c.if-codes-le-MAX_CODES.true)

pub returns-else-codes-le-MAX_CODES : goal.returns-else-codes-le-MAX_CODES
returns-else-codes-le-MAX_CODES c = rw (lt-leb _ _ c.if-codes-le-MAX_CODES.false)
