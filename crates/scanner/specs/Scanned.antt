-- What the scanner's functions say of a text and a position in it.
use Rattle.std.specs.Prelude.{ℕ, ◌+◌, ◌≤◌, ◌<◌, min, ◌≡◌, List, length, slice_range}
use Rattle.grammar.specs.Stream.{place_in, bytes_in, rest_of, stream_at}
use Rattle.grammar.specs.Symbols.{symbol_in, no_more}
use Rattle.scanner.specs.Symbols.{named}
use Rattle.scanner.specs.declared.Token.{Token}

-- the token t is the first from a position on
pub record Scanned (text : List ℕ) (at : ℕ) (t : Token) : Type 0 where
  pub from : at ≤ t.start
  pub skipped : stream_at text at ≡ stream_at text t.start
  pub upto : t.start ≤ t.end
  pub end_within : t.end ≤ length text
  pub some : ¬ (symbol_in (stream_at text at) ≡ no_more) → t.start < t.end
  pub symbol_is : t.symbol ≡ named (symbol_in (stream_at text at))
  pub place_is : place_in (stream_at text at) ≡ t.start + 1
  pub bytes_are : bytes_in (stream_at text at) ≡ slice_range text t.start t.end
  pub rest_is : rest_of (stream_at text at) ≡ stream_at text t.end

-- numbers above this are all the same to the reader
abbrev pub ceiling : ℕ
ceiling = 4294967296

abbrev pub capped : ℕ → ℕ
capped n = min n ceiling
