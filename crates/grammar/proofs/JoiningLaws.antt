-- Tokens before the rest of a stream, and outcomes after codes.
use Prim.Native.Nat.{ℕ, zero, suc, ◌+◌}
use native.Mathlib.Omega.{arith}
use mathlib.Core.Path.{◌≡◌, refl, sym, ap}
use mathlib.Core.List.{List, [], ◌∷◌, ◌++◌, append_assoc}
use lib.ListN.{length}
use Rattle.model.specs.declared.Code.{Code}
use Rattle.model.specs.Tokens.{Token}
use Rattle.grammar.specs.Stream.{Stream, ends, token, stream_at}
use Rattle.grammar.specs.Grammar.{Outcome, failed, read, prefixed}

unfoldable pub list_of : Stream → List Token
list_of (ends p) = []
list_of (token t ts) = t ∷ list_of ts

-- the tokens of a text, in order
unfoldable pub tokens_of : List ℕ → List Token
tokens_of text = list_of (stream_at text 0)

infixr 45 ◌⊕◌
unfoldable pub ◌⊕◌ : List Token → Stream → Stream
[] ⊕ rest = rest
(t ∷ ts) ⊕ rest = token t (ts ⊕ rest)

unfoldable pub size : Stream → ℕ
size (ends p) = 0
size (token t ts) = suc (size ts)

-- n and i more, by steps of n
unfoldable pub plus : ℕ → ℕ → ℕ
plus zero i = i
plus (suc n) i = suc (plus n i)

pub plus_sum : (n i : ℕ) → plus n i ≡ n + i
unfolding plus
plus_sum zero i = omega arith
plus_sum (suc n) i = omega (arith, plus_sum n i)

pub join-append : (ts us : List Token) (rest : Stream) → (ts ++ us) ⊕ rest ≡ ts ⊕ (us ⊕ rest)
unfolding ◌⊕◌
join-append [] us rest = refl
join-append (t ∷ ts) us rest = ap (token t) (join-append ts us rest)

pub size-join : (ts : List Token) (rest : Stream) → size (ts ⊕ rest) ≡ length ts + size rest
unfolding ◌⊕◌ size
size-join [] rest = omega arith
size-join (t ∷ ts) rest = omega (arith, size-join ts rest)

pub list-join : (ts : List Token) (rest : Stream) → list_of (ts ⊕ rest) ≡ ts ++ list_of rest
unfolding ◌⊕◌ list_of
list-join [] rest = refl
list-join (t ∷ ts) rest = ap (λ us. t ∷ us) (list-join ts rest)

-- ---- outcomes

pub prefixed-prefixed : (cs ds : List Code) (o : Outcome) → prefixed cs (prefixed ds o) ≡ prefixed (cs ++ ds) o
unfolding prefixed
prefixed-prefixed cs ds (failed n p) = refl
prefixed-prefixed cs ds (read es ts) = ap (λ l. read l ts) (sym (append_assoc cs ds es))
