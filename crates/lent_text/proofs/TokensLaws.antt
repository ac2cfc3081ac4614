-- A token that is passed, by its symbol.
use Rattle.std.proofs.Common.{◌≡◌, ◌+◌, ◌≤◌, Bool, true, false, eqb, sym, ap, ◌∙◌, subst, arith}
use denote.Enum.Bare.{sameb}
use borrow.Author.Tests.{eqb-true, eq-eqb}
use Rattle.model.specs.declared.Refusal.{Refusal}
use Rattle.model.specs.Limits.{max_text}
use Rattle.grammar.specs.Symbols.{symbol_in}
use Rattle.scanner.specs.contracts.symbols.Symbol.{the_type}
use Rattle.scanner.specs.declared.symbols.Symbol.{Symbol}
use Rattle.scanner.specs.Symbols.{is_token, named, number_of}
use Rattle.scanner.proofs.SymbolsLaws.{named-number, tested, token_asked, token_more}
use Rattle.lent_text.specs.declared.codes.Codes.{Codes}
use Rattle.lent_text.specs.State.{State, stream_of, left, Passed, Took, Kept, Missed}

module _ (symbol : Symbol) (s e : State) (known : is_token symbol ≡ true) where
  pub took : eqb (symbol_in (stream_of s)) (number_of symbol) ≡ true → Passed s e → s.codes.count + left s ≤ max_text → Took symbol s e
  took is p room =
      let fewer = p.fewer (λ z. token_more symbol known (sym (eqb-true _ _ is) ∙ z)) in
      record {
        is = is;
        rest_is = p.rest_is;
        fewer = fewer;
        room = omega (arith, room, fewer, ap (λ (x : Codes). x.count) p.codes_are);
        codes_are = p.codes_are;
      }

  pub passed : {r : Symbol} → r ≡ named (symbol_in (stream_of s)) → r ≡ symbol → Passed s e → s.codes.count + left s ≤ max_text → Took symbol s e
  passed is h p room = took (eq-eqb _ _ (named-number _ symbol (sym h ∙ is) (token_asked symbol known))) p room

  module _ {r : Symbol} (named_it : r ≡ named (symbol_in (stream_of s))) {b : Bool} (test : b ≡ sameb the_type r symbol) where
    pub taken : b ≡ true → Passed s e → s.codes.count + left s ≤ max_text → Took symbol s e
    taken h p room = took (sym (tested _ r symbol b named_it (token_asked symbol known) test) ∙ h) p room

    pub kept : b ≡ false → e ≡ s → Kept symbol s e
    kept h q = record { is = sym (tested _ r symbol b named_it (token_asked symbol known) test) ∙ h; same = q }

-- where a token was kept, the next question is asked of the same
module _ {a b : Symbol} {s m : State} (k : Kept a s m) where
  pub kept-took : {e : State} → Took b m e → Took b s e
  kept-took {e} t = subst (λ (x : State). Took b x e) k.same t

  pub kept-kept : {e : State} → Kept b m e → Kept b s e
  kept-kept {e} t = subst (λ (x : State). Kept b x e) k.same t

  pub kept-missed : {r : Refusal} → Missed b m r → Missed b s r
  kept-missed {r} t = subst (λ (x : State). Missed b x r) k.same t
