-- Whatever the productions derive is read, with the codes that they give.
use Prim.Native.Nat.{ℕ, zero, suc, ◌+◌, ◌≤◌, ◌<◌}
use native.Mathlib.Omega.{arith}
use mathlib.Core.Path.{◌≡◌, refl, ap, ◌∙◌}
use mathlib.Core.Bool.{Bool, true, false, ◌&&◌}
use mathlib.Core.List.{List, [], ◌∷◌, ◌++◌, append-nil}
use borrow.Author.Tests.{eq-eqb, ne_eqb, leb-true}
use lib.Dec.{eqb, leb}
use lib.ListN.{length, length-append}
use Rattle.model.specs.declared.Code.{Code}
use Rattle.model.specs.declared.Code.TheVariants.{Phrase, Combine, Not, Filter as Filtered, Occurs}
use Rattle.model.specs.declared.Filter.{Filter}
use Rattle.model.specs.declared.Pair.TheVariants.{Or, And, MildNot}
use Rattle.model.specs.declared.Times.{Times}
use Rattle.model.specs.Limits.{max_words}
use Rattle.model.specs.Productions.{Sign, Keyword, Words, no_word, word_more, FTWords, quoted, FTTimes, times, FTPosFilter, ordered, window, distance, same_sentence, same_paragraph, different_sentence, different_paragraph, at_start, at_end, entire_content, FTSelection, selection_or, selection_filter, or_and, or_more, and_mild, and_more, mild_unary, mild_more, unary_primary, unary_not, FTPrimary, phrase, phrase_times, nested}
use Rattle.model.specs.Tokens.{Token, quote, opening, closing}
use Rattle.grammar.specs.Stream.{Stream, ends, token, value_in}
use Rattle.grammar.specs.Symbols.{k_ftor, k_ftand, k_ftnot, k_not, k_in, k_ordered, k_entire, k_occurs, k_words, k_times, same_bytes, number_among, symbol_of, symbol_in}
use Rattle.grammar.specs.Grammar.{Outcome, read, Rule, prefixed, ◌then◌, expect, coded, measured, words, any_times, phrase as phrase_rule, either, starts_filter, filter, filters, row, not_in, ft_primary, ft_unary_not, ft_mild_not, ft_and, ft_or, ft_selection}
use Rattle.grammar.proofs.JoiningLaws.{◌⊕◌, size, join-append, size-join, prefixed-prefixed}
use Rattle.grammar.proofs.RangesLaws.{range_complete}
use Rattle.grammar.proofs.SymbolsLaws.{keyword_symbol, sign_symbol, number_symbol, number-within}

-- ---- filters

filter_complete : {us : List Token} {f : Filter} (rest : Stream) → FTPosFilter us f → filter (us ⊕ rest) ≡ read (Filtered f ∷ []) rest
unfolding ◌⊕◌ filter either coded measured number_among same_bytes value_in ◌then◌ prefixed
filter_complete rest (ordered a) = rw (keyword_symbol a)
filter_complete rest (window a n z) = rw (keyword_symbol a, number_symbol n, number-within n, keyword_symbol z)
filter_complete rest (distance a r z) = rw (keyword_symbol a) (range_complete k_words refl Filtered rest r z)
filter_complete rest (same_sentence a b) = rw (keyword_symbol a, keyword_symbol b)
filter_complete rest (same_paragraph a b) = rw (keyword_symbol a, keyword_symbol b)
filter_complete rest (different_sentence a b) = rw (keyword_symbol a, keyword_symbol b)
filter_complete rest (different_paragraph a b) = rw (keyword_symbol a, keyword_symbol b)
filter_complete rest (at_start a b) = rw (keyword_symbol a, keyword_symbol b)
filter_complete rest (at_end a b) = rw (keyword_symbol a, keyword_symbol b)
filter_complete rest (entire_content a b) = rw (keyword_symbol a, keyword_symbol b)

filter-starts : {us : List Token} {f : Filter} (rest : Stream) → FTPosFilter us f → starts_filter (us ⊕ rest) ≡ true
unfolding ◌⊕◌ starts_filter number_among same_bytes
filter-starts rest (ordered a) = rw (keyword_symbol a)
filter-starts rest (window a n z) = rw (keyword_symbol a)
filter-starts rest (distance a r z) = rw (keyword_symbol a)
filter-starts rest (same_sentence a b) = rw (keyword_symbol a)
filter-starts rest (same_paragraph a b) = rw (keyword_symbol a)
filter-starts rest (different_sentence a b) = rw (keyword_symbol a)
filter-starts rest (different_paragraph a b) = rw (keyword_symbol a)
filter-starts rest (at_start a b) = rw (keyword_symbol a)
filter-starts rest (at_end a b) = rw (keyword_symbol a)
filter-starts rest (entire_content a b) = rw (keyword_symbol a)

pub no_filter : (p : ℕ) → starts_filter (ends p) ≡ false
unfolding starts_filter
no_filter p = refl

pub filter-length : {f : Filter} (us : List Token) → FTPosFilter us f → 1 ≤ length us
unfolding ◌⊕◌
filter-length [] d =
    let e : starts_filter (ends 0) ≡ true = filter-starts (ends 0) d in
    let z : ◌≡◌ {A = ℕ} 0 1 = cc (no_filter 0) in
    absurd (omega arith)
filter-length (u ∷ us) d = omega arith

-- ---- phrases

words_complete : {j : ℕ} {ts : List Token} {cs : List Code} {u : Token} (left k : ℕ) (rest : Stream) → Sign quote u → 1 ≤ k + j → j ≤ left
    → Words j ts cs → words left k (ts ⊕ token u rest) ≡ read (cs ++ (Phrase (k + j) ∷ [])) rest
unfolding ◌⊕◌ words value_in ◌then◌ prefixed
words_complete zero k rest s h l no_word = let e : k + 0 ≡ k = omega arith in rw (sign_symbol s refl, ne_eqb k 0 (λ z. omega arith), e)
words_complete (suc left) k rest s h l no_word = let e : k + 0 ≡ k = omega arith in rw (sign_symbol s refl, ne_eqb k 0 (λ z. omega arith), e)
words_complete zero k rest s h l (word_more n d) = absurd (omega arith)
words_complete (suc left) k rest s h l (word_more {k = j} n d) =
    let e : k + 1 + j ≡ k + suc j = omega arith in
    let later = words_complete {j = j} left (k + 1) rest s (omega arith) (omega arith) d in
    rw (number_symbol n, number-within n, later, e)

times_complete : {us : List Token} {k : Times} (rest : Stream) → FTTimes us k → any_times (us ⊕ rest) ≡ read (Occurs k ∷ []) rest
unfolding ◌⊕◌ any_times number_among same_bytes
times_complete rest (times a r z) = rw (keyword_symbol a) (range_complete k_times refl Occurs rest r z)

times_none : (rest : Stream) → eqb (symbol_in rest) k_occurs ≡ false → any_times rest ≡ read [] rest
unfolding any_times
times_none rest h = rw h

-- ---- rows

-- an outcome that is codes read, and a row (or filters) still to read on the rest
pub record Rowed (o : Outcome) (cs : List Code) (r : ℕ → Rule) (rest : Stream) : Type 0 where
  pub turns : ℕ
  pub enough : size rest ≤ turns
  pub is : o ≡ prefixed cs (r turns rest)

abbrev Other : ℕ → Stream → Type 0
Other s ts = eqb (symbol_in ts) s ≡ false

module _ (s : ℕ) (op : Rule) (c : Code) (operand : Rule) where
  pub row-stops : (m : ℕ) (rest : Stream) → eqb (symbol_in rest) s ≡ false → row m s op c operand rest ≡ read [] rest
  unfolding row
  row-stops zero rest h = refl
  row-stops (suc m) rest h = rw h

  stopped : {o : Outcome} {cs : List Code} {rest : Stream} → Other s rest → Rowed o cs (λ m. row m s op c operand) rest → o ≡ read cs rest
  unfolding prefixed
  stopped {o} {cs} {rest} h r = r.is ∙ ap (prefixed cs) (row-stops r.turns rest h) ∙ ap (λ l. read l rest) (append-nil cs)

  row_goes : {ds : List Code} {rest : Stream} (m : ℕ) (ts us : Stream) → symbol_in ts ≡ s → op ts ≡ read [] us → operand us ≡ read ds rest
      → size rest < size ts → size ts ≤ m → Rowed (row m s op c operand ts) (ds ++ (c ∷ [])) (λ k. row k s op c operand) rest
  unfolding row ◌then◌ prefixed
  row_goes zero ts us h o d l k = absurd (omega arith)
  row_goes {ds} {rest} (suc m) ts us h o d l k = record { turns = m; enough = omega arith; is = rw (eq-eqb _ _ h, o, d) }

  row_more : {o : Outcome} {cs ds : List Code} {rest : Stream} (ts us : Stream) → Rowed o cs (λ m. row m s op c operand) ts
      → symbol_in ts ≡ s → op ts ≡ read [] us → operand us ≡ read ds rest → size rest < size ts
      → Rowed o (cs ++ (ds ++ (c ∷ []))) (λ m. row m s op c operand) rest
  row_more {cs = cs} {ds = ds} ts us r h o d l =
      let g = row_goes r.turns ts us h o d l r.enough in
      record { turns = g.turns; enough = g.enough; is = r.is ∙ ap (prefixed cs) g.is ∙ prefixed-prefixed cs (ds ++ (c ∷ [])) _ }

  row_first : {o : Outcome} {cs : List Code} {rest : Stream} (n : ℕ) → o ≡ read cs rest → size rest ≤ n
      → Rowed (o then row n s op c operand) cs (λ m. row m s op c operand) rest
  unfolding ◌then◌
  row_first n e l = record { turns = n; enough = l; is = rw e }

-- ---- the rules, each with the selection that has as much fuel

abbrev mild_row : ℕ → ℕ → Rule
mild_row n m = row m k_not not_in (Combine MildNot) (ft_unary_not n (ft_selection n))

abbrev and_row : ℕ → ℕ → Rule
and_row n m = row m k_ftand (expect k_ftand) (Combine And) (ft_mild_not n (ft_selection n))

abbrev or_row : ℕ → ℕ → Rule
or_row n m = row m k_ftor (expect k_ftor) (Combine Or) (ft_and n (ft_selection n))

-- what can't go on an operand, a row, a selection
pub record Closes (rest : Stream) : Type 0 where
  pub no_not : eqb (symbol_in rest) k_not ≡ false
  pub no_and : eqb (symbol_in rest) k_ftand ≡ false
  pub no_or : eqb (symbol_in rest) k_ftor ≡ false
  pub no_times : eqb (symbol_in rest) k_occurs ≡ false

pub filters_stop : (m : ℕ) (rest : Stream) → starts_filter rest ≡ false → filters m rest ≡ read [] rest
unfolding filters
filters_stop zero rest h = refl
filters_stop (suc m) rest h = rw h

pub filtered : {o : Outcome} {cs : List Code} {rest : Stream} → starts_filter rest ≡ false → Rowed o cs filters rest → o ≡ read cs rest
unfolding prefixed
filtered {o} {cs} {rest} h r = r.is ∙ ap (prefixed cs) (filters_stop r.turns rest h) ∙ ap (λ l. read l rest) (append-nil cs)

filters_go : {us : List Token} {f : Filter} (m : ℕ) (rest : Stream) → FTPosFilter us f → size (us ⊕ rest) ≤ m
    → Rowed (filters m (us ⊕ rest)) (Filtered f ∷ []) filters rest
unfolding filters ◌then◌
filters_go {us} zero rest d h = absurd (omega (arith, filter-length us d, size-join us rest))
filters_go {us} (suc m) rest d h =
    record { turns = m; enough = omega (arith, filter-length us d, size-join us rest); is = rw (filter-starts rest d, filter_complete rest d) }

closing-starts : {u : Token} (rest : Stream) → Sign closing u → starts_filter (token u rest) ≡ false
unfolding starts_filter
closing-starts rest s = rw (sign_symbol s refl)

closes_closing : {u : Token} (rest : Stream) → Sign closing u → Closes (token u rest)
closes_closing rest s =
    record { no_not = rw (sign_symbol s refl); no_and = rw (sign_symbol s refl); no_or = rw (sign_symbol s refl); no_times = rw (sign_symbol s refl) }

pub closes_end : (p : ℕ) → Closes (ends p)
closes_end p = record { no_not = refl; no_and = refl; no_or = refl; no_times = refl }

starts_closes : (ts : Stream) → starts_filter ts ≡ true → Closes ts
unfolding starts_filter
starts_closes ts h = at (leb k_ordered (symbol_in ts)) refl h where
  at : (x : Bool) → leb k_ordered (symbol_in ts) ≡ x → (x && leb (symbol_in ts) k_entire) ≡ true → Closes ts
  at true e k =
      let low : k_ordered ≤ symbol_in ts = leb-true _ _ e in
      let high : symbol_in ts ≤ k_entire = leb-true _ _ k in
      let other : (n : ℕ) → n < k_ordered → eqb (symbol_in ts) n ≡ false = λ n l. ne_eqb (symbol_in ts) n (λ z. omega arith) in
      record {
        no_not = other k_not (omega arith);
        no_and = other k_ftand (omega arith);
        no_or = other k_ftor (omega arith);
        no_times = ne_eqb (symbol_in ts) k_occurs (λ z. omega arith);
      }
  at false e k = let z : ◌≡◌ {A = ℕ} 0 1 = cc in absurd (omega arith)

nested_complete : {cs : List Code} {t u : Token} (ts : List Token) (n : ℕ) (rest : Stream) → Sign opening t → Sign closing u
    → suc (length (ts ++ (u ∷ []))) + size rest ≤ n
    → ((k : ℕ) → length ts + size (token u rest) ≤ k → Rowed (ft_selection (suc k) (ts ⊕ token u rest)) cs filters (token u rest))
    → ft_primary n (ft_selection n) ((t ∷ (ts ++ (u ∷ []))) ⊕ rest) ≡ read cs rest
unfolding ◌⊕◌ ft_primary ◌then◌ prefixed size
nested_complete ts zero rest o c l inner = absurd (omega arith)
nested_complete {cs} {t} {u} ts (suc n) rest o c l inner =
    let e = filtered (closing-starts rest c) (inner n (omega (arith, length-append ts (u ∷ [])))) in
    rw (sign_symbol o refl, join-append ts (u ∷ []) rest, e, sign_symbol c refl) (ap (λ l. read l rest) (append-nil cs))

-- with what follows the phrase's words
phrase_complete : {ts : List Token} {cs ds : List Code} (n : ℕ) (more rest : Stream) → FTWords ts cs → any_times more ≡ read ds rest
    → ft_primary n (ft_selection n) (ts ⊕ more) ≡ read (cs ++ ds) rest
unfolding ◌⊕◌ ft_primary phrase_rule ◌then◌ prefixed
phrase_complete n more rest (quoted {k = k} {ts = ts} {u = u} q d low high r) e =
    let z : 0 + k ≡ k = omega arith in
    rw (sign_symbol q refl, join-append ts (u ∷ []) more, words_complete max_words 0 more r (omega arith) high d, z, e)

unary_complete : {cs : List Code} (ts : Stream) (n : ℕ) (rest : Stream) → Other k_ftnot ts → ft_primary n (ft_selection n) ts ≡ read cs rest
    → ft_unary_not n (ft_selection n) ts ≡ read cs rest
unfolding ft_unary_not
unary_complete ts n rest h e = rw (h, e)

words-first : {ts : List Token} {cs : List Code} (rest : Stream) → FTWords ts cs → Other k_ftnot (ts ⊕ rest)
unfolding ◌⊕◌
words-first rest (quoted q d low high r) = rw (sign_symbol q refl)

primary_first : {ts : List Token} {cs : List Code} (rest : Stream) → FTPrimary ts cs → Other k_ftnot (ts ⊕ rest)
unfolding ◌⊕◌
primary_first rest (phrase d) = words-first rest d
primary_first rest (phrase_times {ts = ts} {us = us} d e) = rw (join-append ts us rest) (words-first (us ⊕ rest) d)
primary_first rest (nested o d c) = rw (sign_symbol o refl)

unary_not_complete : {cs : List Code} {t : Token} (ts : List Token) (n : ℕ) (rest : Stream) → Keyword "ftnot" t
    → ft_primary n (ft_selection n) (ts ⊕ rest) ≡ read cs rest → ft_unary_not n (ft_selection n) ((t ∷ ts) ⊕ rest) ≡ read (cs ++ (Not ∷ [])) rest
unfolding ◌⊕◌ ft_unary_not number_among same_bytes ◌then◌ prefixed
unary_not_complete ts n rest w e = rw (keyword_symbol w, e)

mild_first : {cs : List Code} (ts : Stream) (n : ℕ) (rest : Stream) → ft_unary_not n (ft_selection n) ts ≡ read cs rest → size rest ≤ n
    → Rowed (ft_mild_not n (ft_selection n) ts) cs (mild_row n) rest
unfolding ft_mild_not
mild_first ts n rest e l = row_first k_not _ (Combine MildNot) _ n e l

and_first : {cs : List Code} (ts : Stream) (n : ℕ) (rest : Stream) → ft_mild_not n (ft_selection n) ts ≡ read cs rest → size rest ≤ n
    → Rowed (ft_and n (ft_selection n) ts) cs (and_row n) rest
unfolding ft_and
and_first ts n rest e l = row_first k_ftand _ (Combine And) _ n e l

or-first : {cs : List Code} (ts : Stream) (n : ℕ) (rest : Stream) → ft_and n (ft_selection n) ts ≡ read cs rest → size rest ≤ n
    → Rowed (ft_or n (ft_selection n) ts) cs (or_row n) rest
unfolding ft_or
or-first ts n rest e l = row_first k_ftor _ (Combine Or) _ n e l

selection-first : {cs : List Code} (ts : Stream) (n : ℕ) (rest : Stream) → ft_or n (ft_selection n) ts ≡ read cs rest → size rest ≤ n
    → Rowed (ft_selection (suc n) ts) cs filters rest
unfolding ft_selection ◌then◌
selection-first ts n rest e l = record { turns = n; enough = l; is = rw e }

-- one more operand
module _ (s : ℕ) (c : Code) (operand : Rule) where
  joined : {o : Outcome} {cs ds : List Code} (t : Token) (us : List Token) (rest : Stream) → symbol_of t ≡ s
      → Rowed o cs (λ m. row m s (expect s) c operand) ((t ∷ us) ⊕ rest) → operand (us ⊕ rest) ≡ read ds rest
      → Rowed o (cs ++ (ds ++ (c ∷ []))) (λ m. row m s (expect s) c operand) rest
  unfolding ◌⊕◌ size
  joined t us rest h r d = row_more s (expect s) c operand _ (us ⊕ rest) r h (rw (eq-eqb _ _ h)) d (omega (arith, size-join us rest))

mild_joined : {o : Outcome} {cs ds : List Code} (t u : Token) (n : ℕ) (us : List Token) (rest : Stream)
    → symbol_of t ≡ k_not → symbol_of u ≡ k_in → Rowed o cs (mild_row n) ((t ∷ u ∷ us) ⊕ rest) → ft_unary_not n (ft_selection n) (us ⊕ rest) ≡ read ds rest
    → Rowed o (cs ++ (ds ++ (Combine MildNot ∷ []))) (mild_row n) rest
unfolding ◌⊕◌ size ◌then◌ prefixed
mild_joined t u n us rest h i r d = row_more k_not _ (Combine MildNot) _ _ (us ⊕ rest) r h (rw (h, i)) d (omega (arith, size-join us rest))

selection-joined : {o : Outcome} {us : List Token} {cs : List Code} {f : Filter} (rest : Stream) → Rowed o cs filters (us ⊕ rest) → FTPosFilter us f
    → Rowed o (cs ++ (Filtered f ∷ [])) filters rest
selection-joined {us = us} {cs = cs} {f = f} rest r d =
    let g = filters_go r.turns rest d r.enough in
    record { turns = g.turns; enough = g.enough; is = r.is ∙ ap (prefixed cs) g.is ∙ prefixed-prefixed cs (Filtered f ∷ []) _ }

-- the operators' symbols
or_symbol : {t : Token} → Keyword "ftor" t → symbol_of t ≡ k_ftor
unfolding number_among same_bytes
or_symbol w = keyword_symbol w

and_symbol : {t : Token} → Keyword "ftand" t → symbol_of t ≡ k_ftand
unfolding number_among same_bytes
and_symbol w = keyword_symbol w

not_symbol : {t : Token} → Keyword "not" t → symbol_of t ≡ k_not
unfolding number_among same_bytes
not_symbol w = keyword_symbol w

in_symbol : {t : Token} → Keyword "in" t → symbol_of t ≡ k_in
unfolding number_among same_bytes
in_symbol w = keyword_symbol w

-- a token of one symbol is not of another
symbol_other : {s : ℕ} (r : ℕ) (t : Token) (us : List Token) (rest : Stream) → symbol_of t ≡ s → eqb s r ≡ false → Other r ((t ∷ us) ⊕ rest)
unfolding ◌⊕◌
symbol_other r t us rest h k = ap (λ s. eqb s r) h ∙ k

split_length : (ts us : List Token) (rest : Stream) (n : ℕ) → length (ts ++ us) + size rest ≤ n → length ts + size (us ⊕ rest) ≤ n
split_length ts us rest n h = omega (arith, length-append ts us, size-join us rest)

-- what each rule makes of what its production derives
abbrev SelectionRead : List Token → List Code → Type 0
SelectionRead ts cs = (n : ℕ) (rest : Stream) → length ts + size rest ≤ n → Closes rest → Rowed (ft_selection (suc n) (ts ⊕ rest)) cs filters rest

abbrev OrRead : List Token → List Code → Type 0
OrRead ts cs =
    (n : ℕ) (rest : Stream) → length ts + size rest ≤ n → Other k_occurs rest → Other k_not rest → Other k_ftand rest
    → Rowed (ft_or n (ft_selection n) (ts ⊕ rest)) cs (or_row n) rest

abbrev AndRead : List Token → List Code → Type 0
AndRead ts cs =
    (n : ℕ) (rest : Stream) → length ts + size rest ≤ n → Other k_occurs rest → Other k_not rest
    → Rowed (ft_and n (ft_selection n) (ts ⊕ rest)) cs (and_row n) rest

abbrev MildRead : List Token → List Code → Type 0
MildRead ts cs =
    (n : ℕ) (rest : Stream) → length ts + size rest ≤ n → Other k_occurs rest → Rowed (ft_mild_not n (ft_selection n) (ts ⊕ rest)) cs (mild_row n) rest

abbrev NotRead : List Token → List Code → Type 0
NotRead ts cs = (n : ℕ) (rest : Stream) → length ts + size rest ≤ n → Other k_occurs rest → ft_unary_not n (ft_selection n) (ts ⊕ rest) ≡ read cs rest

abbrev PrimaryRead : List Token → List Code → Type 0
PrimaryRead ts cs = (n : ℕ) (rest : Stream) → length ts + size rest ≤ n → Other k_occurs rest → ft_primary n (ft_selection n) (ts ⊕ rest) ≡ read cs rest

-- (a function over the `mutual` block may not match here, where an index is `ts ++ us`; the eliminator may)
pub selection_complete : {ts : List Token} {cs : List Code} → FTSelection ts cs → SelectionRead ts cs
selection_complete d =
    elim d as (λ ts cs x. SelectionRead ts cs) (λ ts cs x. OrRead ts cs) (λ ts cs x. AndRead ts cs) (λ ts cs x. MildRead ts cs)
    (λ ts cs x. NotRead ts cs) (λ ts cs x. PrimaryRead ts cs) [
      | selection_or (d → g) ↦ λ n rest l c.
          selection-first _ n rest (stopped k_ftor _ (Combine Or) _ c.no_or (g n rest l c.no_times c.no_not c.no_and)) (omega arith)
      | selection_filter {ts = ts} {us = us} (d → g) f ↦ λ n rest l c.
          rw (join-append ts us rest)
          (selection-joined rest (g n (us ⊕ rest) (split_length ts us rest n l) (starts_closes (us ⊕ rest) (filter-starts rest f))) f)
      | or_and (d → g) ↦ λ n rest l o x y. or-first _ n rest (stopped k_ftand _ (Combine And) _ y (g n rest l o x)) (omega arith)
      | or_more {ts = ts} {us = us} {t = t} (d → g) w (e → h) ↦ λ n rest l o x y.
          let s = or_symbol w in
          rw (join-append ts (t ∷ us) rest)
          (joined k_ftor (Combine Or) _ t us rest s
          (g n ((t ∷ us) ⊕ rest) (split_length ts (t ∷ us) rest n l)
          (symbol_other k_occurs t us rest s refl) (symbol_other k_not t us rest s refl) (symbol_other k_ftand t us rest s refl))
          (stopped k_ftand _ (Combine And) _ y (h n rest (omega (arith, length-append ts (t ∷ us))) o x)))
      | and_mild (d → g) ↦ λ n rest l o x. and_first _ n rest (stopped k_not _ (Combine MildNot) _ x (g n rest l o)) (omega arith)
      | and_more {ts = ts} {us = us} {t = t} (d → g) w (e → h) ↦ λ n rest l o x.
          let s = and_symbol w in
          rw (join-append ts (t ∷ us) rest)
          (joined k_ftand (Combine And) _ t us rest s
          (g n ((t ∷ us) ⊕ rest) (split_length ts (t ∷ us) rest n l) (symbol_other k_occurs t us rest s refl) (symbol_other k_not t us rest s refl))
          (stopped k_not _ (Combine MildNot) _ x (h n rest (omega (arith, length-append ts (t ∷ us))) o)))
      | mild_unary (d → g) ↦ λ n rest l o. mild_first _ n rest (g n rest l o) (omega arith)
      | mild_more {ts = ts} {us = us} {t = t} {u = u} (d → g) w i (e → h) ↦ λ n rest l o.
          let s = not_symbol w in
          rw (join-append ts (t ∷ u ∷ us) rest)
          (mild_joined t u n us rest s (in_symbol i)
          (g n ((t ∷ u ∷ us) ⊕ rest) (split_length ts (t ∷ u ∷ us) rest n l) (symbol_other k_occurs t (u ∷ us) rest s refl))
          (h n rest (omega (arith, length-append ts (t ∷ u ∷ us))) o))
      | unary_primary (d → g) ↦ λ n rest l o. unary_complete _ n rest (primary_first rest d) (g n rest l o)
      | unary_not {ts = ts} w (d → g) ↦ λ n rest l o. unary_not_complete ts n rest w (g n rest (omega arith) o)
      | phrase {cs = cs} d ↦ λ n rest l o. phrase_complete n rest rest d (times_none rest o) ∙ ap (λ k. read k rest) (append-nil cs)
      | phrase_times {ts = ts} {us = us} d e ↦ λ n rest l o. rw (join-append ts us rest) (phrase_complete n (us ⊕ rest) rest d (times_complete rest e))
      | nested {ts = ts} {u = u} o (d → g) c ↦ λ n rest l x. nested_complete ts n rest o c l (λ k h. g k (token u rest) h (closes_closing rest c))
    ]
