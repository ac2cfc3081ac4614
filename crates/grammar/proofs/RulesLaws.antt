-- How the other rules of the grammar go, up to the selection: as FlatRulesLaws says it of the rules below them.
use Prim.Native.Nat.{ℕ, zero, suc, ◌+◌, ◌≤◌, ◌<◌}
use native.Mathlib.Omega.{arith}
use mathlib.Core.Path.{◌≡◌, refl, ap, ◌∙◌}
use mathlib.Core.Bool.{false, ◌&&◌, cond}
use mathlib.Core.List.{List, [], ◌∷◌, ◌++◌, append_assoc, append-nil}
use lib.Dec.{eqb, leb}
use lib.ListN.{length}
use Rattle.model.specs.declared.Code.{Code}
use Rattle.model.specs.declared.Code.TheVariants.{Combine, Not}
use Rattle.model.specs.declared.Pair.TheVariants.{Or, And, MildNot}
use Rattle.model.specs.Limits.{max_words, max_word}
use Rattle.model.specs.Productions.{Sign, Keyword, no_word, word_more, FTWords, quoted, FTSelection, selection_or, selection_filter, FTOr, or_and, or_more, FTAnd, and_mild, and_more, FTMildNot, mild_unary, mild_more, FTUnaryNot, unary_primary, unary_not, FTPrimary, phrase, phrase_times, nested}
use Rattle.model.specs.Tokens.{Token, quote, opening, closing}
use Rattle.grammar.specs.Stream.{Stream, ends, token, rest_of}
use Rattle.grammar.specs.Symbols.{k_ftor, k_ftand, k_ftnot, k_not, k_in, k_ordered, k_entire, no_more, s_quote, s_opening, s_closing, symbol_in}
use Rattle.grammar.specs.Grammar.{read, Rule, ◌then◌, refused, writes, expect, phrase as phrase_rule, starts_filter, filter, filters, row, not_in, ft_primary, ft_unary_not, ft_mild_not, ft_and, ft_or, ft_selection}
use Rattle.grammar.proofs.CompletingLaws.{no_filter, filter-length, row-stops, filters_stop}
use Rattle.grammar.proofs.GoingLaws.{Production, Within, Joins, Near, Viable, Went, reads, went-map, Seq, seq, went_then, went-both, went_if, Wrote, wrote, wrote-some, went-read, went-refused, keyword_taken, sign_taken, went_case, One, one, a_sign_lem, a_sign, a_number_lem, a_number, went-word, word_some, went_sign, sign_some}
use Rattle.grammar.proofs.JoiningLaws.{◌⊕◌, size, plus, size-join}
use Rattle.grammar.proofs.FlatRulesLaws.{FilterCodes, filter-codes, went-filter, Tail, tail, AnyTimes, no_times, some-times, went-phrase}

-- ---- rows

-- what goes on something derived
abbrev On : Production → Production
On D us ds = (ls : List Token) (bs : List Code) → D ls bs → D (ls ++ us) (bs ++ ds)

rest-size : (ts : Stream) (pre : List Token) (rest : Stream) → ts ≡ pre ⊕ rest → size ts ≡ length pre + size rest
rest-size ts pre rest e = ap size e ∙ size-join pre rest

module _ (D : Production) where
  on-nil : Within (Wrote []) (On D)
  on-nil us ds wrote cs bs d = rw (append-nil cs, append-nil bs) d

  on_some : Viable (On D) []
  on_some = record { more = []; codes = []; holds = on-nil [] [] wrote }

  on-on : (X : Production) → Within X (On D) → Within (Seq X (On D)) (On D)
  on-on X f us ds (seq {ts = ps} {us = qs} {cs = cs} {ds = es} x g) ls bs d =
      rw (← (append_assoc ls ps qs), ← (append_assoc bs cs es)) (g _ _ (f _ _ x _ _ d))

  onto : (P : Production) → Within P D → Within (Seq P (On D)) D
  onto P f us ds (seq p g) = g _ _ (f _ _ p)

-- at least one token
abbrev Grows : Production → Type 0
Grows P = (ts : List Token) (cs : List Code) → P ts cs → 1 ≤ length ts

-- one operator with its operand, and its code
abbrev Turn : Production → Production → Code → Production
Turn Op O c = Seq (Seq Op O) (Wrote (c ∷ []))

module _ (Op O D : Production) (s : ℕ) (more : eqb no_more s ≡ false) (op : Rule) (c : Code) (operand : ℕ → Rule) (operand₀ : Rule) (n : ℕ)
    (went-op : (ts : Stream) → Went Op (λ i. op) ts (op ts)) (went-operand : (ts : Stream) → size ts ≤ n → Went O operand ts (operand₀ ts))
    (some : Viable O []) (grows : Grows (Turn Op O c)) (turn : Within (Turn Op O c) (On D)) where
  went-row : (k : ℕ) (ts : Stream) → size ts ≤ k → size ts ≤ n → Went (On D) (λ i. row (plus k i) s op c (operand i)) ts (row k s op c operand₀ ts)
  unfolding row size ◌⊕◌ plus
  went-row zero (ends p) h m =
      reads [] refl (on-nil D [] [] wrote) (λ i later q. row-stops s op c (operand i) i later (ap (λ r. eqb r s) q.symbol ∙ more))
  went-row zero (token t us) h m = absurd (omega arith)
  went-row (suc k) ts h m =
      went_if (λ r. eqb r s) (λ i us. op us then operand i then writes c then row (plus k i) s op c (operand i))
      (λ us. op us then operand₀ then writes c then row k s op c operand₀) (λ i us. read [] us) (λ us. read [] us) ts
      (λ e. went-map (on-on D (Turn Op O c) turn)
      (went_then (λ i us. op us then operand i then writes c) (λ i. row (plus k i) s op c (operand i)) (row k s op c operand₀) (on_some D) ts
      (went_then (λ i us. op us then operand i) (λ i. writes c) (writes c) (wrote-some _) ts
      (went_then (λ i. op) operand operand₀ some ts (went-op ts) (λ pre rest cs x d. went-operand rest (omega (arith, rest-size ts pre rest x))))
      (λ pre rest cs x d. went-read _ rest))
      (λ pre rest cs x d. went-row k rest (omega (arith, rest-size ts pre rest x, grows pre cs d)) (omega (arith, rest-size ts pre rest x)))))
      (λ e. went-map (on-nil D) (went-read [] ts))

filter-on : Within FilterCodes (On FTSelection)
filter-on us ds (filter-codes f) ls bs d = selection_filter d f

filter_grows : Grows FilterCodes
filter_grows us ds (filter-codes f) = filter-length us f

near_filter : (a b : Stream) → Near a b → starts_filter b ≡ starts_filter a
unfolding starts_filter
near_filter a b n = ap (λ s. leb k_ordered s && leb s k_entire) n.symbol

went-filters : (k : ℕ) (ts : Stream) → size ts ≤ k → Went (On FTSelection) (λ i. filters (plus k i)) ts (filters k ts)
unfolding filters starts_filter size ◌⊕◌ plus
went-filters zero (ends p) h =
    reads [] refl (on-nil FTSelection [] [] wrote) (λ i later q. filters_stop i later (near_filter (ends p) later q ∙ no_filter p))
went-filters zero (token t us) h = absurd (omega arith)
went-filters (suc k) ts h =
    went_if (λ s. leb k_ordered s && leb s k_entire) (λ i us. filter us then filters (plus k i)) (λ us. filter us then filters k)
    (λ i us. read [] us) (λ us. read [] us) ts
    (λ e. went-map (on-on FTSelection FilterCodes filter-on)
    (went_then (λ i. filter) (λ i. filters (plus k i)) (filters k) (on_some FTSelection) ts (went-filter ts)
    (λ pre rest cs x d. went-filters k rest (omega (arith, rest-size ts pre rest x, filter_grows pre cs d)))))
    (λ e. went-map (on-nil FTSelection) (went-read [] ts))

-- ---- the rules

primary_some : Viable FTPrimary []
primary_some = record {
  more = a_sign_lem quote ∷ a_number_lem ∷ a_sign_lem quote ∷ [];
  codes = _;
  holds = phrase (quoted (a_sign quote) (word_more (a_number max_word) no_word) (omega arith) (omega arith) (a_sign quote));
}

unary_some : Viable FTUnaryNot []
unary_some = let v = primary_some in record { more = v.more; codes = v.codes; holds = unary_primary v.holds }

mild_some : Viable FTMildNot []
mild_some = let v = unary_some in record { more = v.more; codes = v.codes; holds = mild_unary v.holds }

and-some : Viable FTAnd []
and-some = let v = mild_some in record { more = v.more; codes = v.codes; holds = and_mild v.holds }

quoted-join : Joins (Sign quote) (Tail max_words 0) FTWords
quoted-join t vs ds q (tail {j = j} {m = m} d e l h r) = let f : m ≡ j = omega arith in rw f (quoted q d (omega arith) h r)

phrase-join : Joins (Sign quote) (Seq (Tail max_words 0) AnyTimes) FTPrimary
phrase-join t vs ds q (seq {ts = ts} {cs = cs} d no_times) = rw (append-nil ts, append-nil cs) (phrase (quoted-join t _ _ q d))
phrase-join t vs ds q (seq d (some-times e)) = phrase_times (quoted-join t _ _ q d) e

nested-join : Joins (Sign opening) (Seq FTSelection (One (Sign closing))) FTPrimary
nested-join t vs ds o (seq {cs = cs} d (one c)) = rw (append-nil cs) (nested o d c)

not-join : Joins (Keyword "ftnot") (Seq FTPrimary (Wrote (Not ∷ []))) FTUnaryNot
not-join t vs ds w (seq {ts = ts} d wrote) = rw (append-nil ts) (unary_not w d)

or_turn : Within (Turn (One (Keyword "ftor")) FTAnd (Combine Or)) (On FTOr)
or_turn us ds (seq (seq {us = vs} (one w) e) wrote) ls bs d = rw (append-nil vs) (or_more d w e)

and_turn : Within (Turn (One (Keyword "ftand")) FTMildNot (Combine And)) (On FTAnd)
and_turn us ds (seq (seq {us = vs} (one w) e) wrote) ls bs d = rw (append-nil vs) (and_more d w e)

abbrev NotIn : Production
NotIn = Seq (One (Keyword "not")) (One (Keyword "in"))

mild_turn : Within (Turn NotIn FTUnaryNot (Combine MildNot)) (On FTMildNot)
mild_turn us ds (seq (seq {us = vs} (seq (one w) (one i)) e) wrote) ls bs d = rw (append-nil vs) (mild_more d w i e)

one_grows : {O : Production} {T : Token → Type 0} (c : Code) → Grows (Turn (One T) O c)
one_grows c us ds (seq (seq (one w) e) wrote) = omega arith

two_grows : {O : Production} {T U : Token → Type 0} (c : Code) → Grows (Turn (Seq (One T) (One U)) O c)
two_grows c us ds (seq (seq (seq (one w) (one i)) e) wrote) = omega arith

went-not_in : (ts : Stream) → Went NotIn (λ i. not_in) ts (not_in ts)
went-not_in ts = went-both (expect k_not) (expect k_in) (word_some "in") ts (went-word k_not refl ts) (went-word k_in refl)

token-size : (t : Token) (us : Stream) → size (token t us) ≡ suc (size us)
unfolding size
token-size t us = refl

-- with fuel n, and with i more
module _ (n : ℕ) (inner : (us : Stream) → size us < n → Went FTSelection (λ i. ft_selection (plus n i)) us (ft_selection n us)) where
  went_primary : (ts : Stream) → size ts ≤ n → Went FTPrimary (λ i. ft_primary (plus n i) (ft_selection (plus n i))) ts (ft_primary n (ft_selection n) ts)
  unfolding ft_primary
  went_primary ts h =
      let rule : ℕ → Rule = λ i us. ft_selection (plus n i) us then expect s_closing in
      let rule₀ : Rule = λ us. ft_selection n us then expect s_closing in
      let other : ℕ → Rule = λ i us. cond (eqb (symbol_in us) s_opening) (rule i (rest_of us)) (refused us) in
      let other₀ : Rule = λ us. cond (eqb (symbol_in us) s_opening) (rule₀ (rest_of us)) (refused us) in
      went_case (λ s. eqb s s_quote) (sign_taken quote) (λ i. phrase_rule) phrase_rule other other₀ phrase-join
      ts (λ t us e q. went-phrase us)
      (λ e. went_case (λ s. eqb s s_opening) (sign_taken opening) rule rule₀ (λ i us. refused us) (λ us. refused us) nested-join
      ts (λ t us f o. went_then (λ i. ft_selection (plus n i)) (λ i. expect s_closing) (expect s_closing) (sign_some closing) us
      (inner us (omega (arith, token-size t us, ap size f))) (λ pre rest cs x d. went_sign closing rest))
      (λ f. went-refused primary_some ts))

  went_unary : (ts : Stream) → size ts ≤ n
      → Went FTUnaryNot (λ i. ft_unary_not (plus n i) (ft_selection (plus n i))) ts (ft_unary_not n (ft_selection n) ts)
  unfolding ft_unary_not
  went_unary ts h =
      let rule : ℕ → Rule = λ i. ft_primary (plus n i) (ft_selection (plus n i)) in
      let rule₀ : Rule = ft_primary n (ft_selection n) in
      went_case (λ s. eqb s k_ftnot) (keyword_taken k_ftnot refl) (λ i us. rule i us then writes Not) (λ us. rule₀ us then writes Not)
      rule rule₀ not-join ts
      (λ t us e w. went_then rule (λ i. writes Not) (writes Not) (wrote-some _) us (went_primary us (omega (arith, token-size t us, ap size e)))
      (λ pre rest cs x d. went-read _ rest))
      (λ e. went-map (λ us ds d. unary_primary d) (went_primary ts h))

  went_mild : (ts : Stream) → size ts ≤ n → Went FTMildNot (λ i. ft_mild_not (plus n i) (ft_selection (plus n i))) ts (ft_mild_not n (ft_selection n) ts)
  unfolding ft_mild_not
  went_mild ts h =
      let c : Code = Combine MildNot in
      let rule : ℕ → Rule = λ i. ft_unary_not (plus n i) (ft_selection (plus n i)) in
      let rule₀ : Rule = ft_unary_not n (ft_selection n) in
      went-map (onto FTMildNot FTUnaryNot (λ us ds d. mild_unary d))
      (went_then rule (λ i. row (plus n i) k_not not_in c (rule i)) (row n k_not not_in c rule₀) (on_some FTMildNot) ts (went_unary ts h)
      (λ pre rest cs x d.
      went-row NotIn FTUnaryNot FTMildNot k_not refl not_in c rule rule₀ n went-not_in went_unary unary_some (two_grows c) mild_turn
      n rest (omega (arith, rest-size ts pre rest x)) (omega (arith, rest-size ts pre rest x))))

  went-and : (ts : Stream) → size ts ≤ n → Went FTAnd (λ i. ft_and (plus n i) (ft_selection (plus n i))) ts (ft_and n (ft_selection n) ts)
  unfolding ft_and
  went-and ts h =
      let c : Code = Combine And in
      let rule : ℕ → Rule = λ i. ft_mild_not (plus n i) (ft_selection (plus n i)) in
      let rule₀ : Rule = ft_mild_not n (ft_selection n) in
      went-map (onto FTAnd FTMildNot (λ us ds d. and_mild d))
      (went_then rule (λ i. row (plus n i) k_ftand (expect k_ftand) c (rule i)) (row n k_ftand (expect k_ftand) c rule₀) (on_some FTAnd)
      ts (went_mild ts h)
      (λ pre rest cs x d.
      went-row (One (Keyword "ftand")) FTMildNot FTAnd k_ftand refl (expect k_ftand) c rule rule₀ n (went-word k_ftand refl) went_mild mild_some
      (one_grows c) and_turn n rest (omega (arith, rest-size ts pre rest x)) (omega (arith, rest-size ts pre rest x))))

  went-or : (ts : Stream) → size ts ≤ n → Went FTOr (λ i. ft_or (plus n i) (ft_selection (plus n i))) ts (ft_or n (ft_selection n) ts)
  unfolding ft_or
  went-or ts h =
      let c : Code = Combine Or in
      let rule : ℕ → Rule = λ i. ft_and (plus n i) (ft_selection (plus n i)) in
      let rule₀ : Rule = ft_and n (ft_selection n) in
      went-map (onto FTOr FTAnd (λ us ds d. or_and d))
      (went_then rule (λ i. row (plus n i) k_ftor (expect k_ftor) c (rule i)) (row n k_ftor (expect k_ftor) c rule₀) (on_some FTOr)
      ts (went-and ts h)
      (λ pre rest cs x d.
      went-row (One (Keyword "ftor")) FTAnd FTOr k_ftor refl (expect k_ftor) c rule rule₀ n (went-word k_ftor refl) went-and and-some
      (one_grows c) or_turn n rest (omega (arith, rest-size ts pre rest x)) (omega (arith, rest-size ts pre rest x))))

pub went-selection : (n : ℕ) (ts : Stream) → size ts < n → Went FTSelection (λ i. ft_selection (plus n i)) ts (ft_selection n ts)
unfolding ft_selection plus
went-selection zero ts h = absurd (omega arith)
went-selection (suc n) ts h =
    went-map (onto FTSelection FTOr (λ us ds d. selection_or d))
    (went_then (λ i. ft_or (plus n i) (ft_selection (plus n i))) (λ i. filters (plus n i)) (filters n) (on_some FTSelection)
    ts (went-or n (went-selection n) ts (omega arith)) (λ pre rest cs x d. went-filters n rest (omega (arith, rest-size ts pre rest x))))
