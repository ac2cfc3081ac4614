-- The finds put one after the other are the phrase's list.
use Prim.Native.Nat.{ℕ, ◌+◌, ◌-◌, ◌*◌, ◌≤◌, ◌<◌}
use native.Mathlib.Omega.{arith}
use mathlib.Core.Path.{◌≡◌, refl, sym, ap, ap₂, ◌∙◌, subst}
use mathlib.Core.List.{List, [], ◌∷◌, flat_map}
use mathlib.Core.Logic.{inl}
use lib.ListN.{length, set, length-map}
use lib.Seq.{sets}
use Rattle.model.specs.Limits.{max_matches, radix}
use Rattle.model.specs.Matches.{strings}
use Rattle.model.specs.Rules.{found, phrase_list}
use Rattle.model.specs.Families.{Searched}
use Rattle.model.proofs.RulesLaws.{strings-phrase}
use Rattle.strings.specs.Strings.{strs_of}
use Rattle.store.specs.Built.{over, made}
use Rattle.store.specs.Indices.{ClosingMatch}
use Rattle.store.specs.Layout.{header_between, match_numbers, matches_numbers}
use Rattle.store.specs.Outcome.{Outcome}
use Rattle.store.specs.Put.{Put}
use Rattle.store.proofs.LayoutLaws.{length_match, matches_map}
use Rattle.store.proofs.PutLaws.{put-none, closing_match, closed_match}
use Rattle.store.proofs.RowsLaws.{Rows, rows_start, rows_step, rows_finish}
use Rattle.store.proofs.SlotsLaws.{built_made, built_long, refused, filled}
use Rattle.phrase.specs.Starts.{starts_from, Skipped, FirstStart}
use Rattle.phrase.proofs.StartsLaws.{starts_none, starts-here}

-- ---- a find in memory

-- its one include put, no exclude after it, and then its header
module _ (q p k rank : ℕ) {mem b : List ℕ} {span tag next : ℕ} (e : span ≡ p * radix + (p + k - 1)) (f : tag ≡ rank * 4 + 2 + 0) (v : Put mem b (q + 1) (span ∷ tag ∷ []) next) where
  include_put : Put mem b (q + 1) (strs_of 0 (found rank k p).includes) next
  unfolding strs_of
  include_put = subst (λ xs. Put mem b (q + 1) xs next) (ap₂ (λ s t. s ∷ t ∷ []) e f) v

  no_exclude-put : Put b b next (strs_of 1 (found rank k p).excludes) next
  unfolding strs_of
  no_exclude-put = put-none b next

  pub found-ends : q < length mem → ClosingMatch (length b) q next next
  found-ends h = closing_match q (found rank k p) include_put no_exclude-put (omega arith) h

  pub put-found : {exit : List ℕ} → exit ≡ set b q (header_between q next next) → Put mem exit q (match_numbers (found rank k p)) next
  put-found h = closed_match q (found rank k p) include_put no_exclude-put h

-- ---- the list

-- the find at p, as numbers
abbrev pub found_numbers : ℕ → ℕ → ℕ → List ℕ
found_numbers rank k p = match_numbers (found rank k p)

-- a phrase's list by its starts
module _ (s : Searched) (rank : ℕ) (words : List ℕ) where
  length-list : length (phrase_list s rank words) ≡ length (starts_from s words 1)
  unfolding phrase_list starts_from
  length-list = length-map (starts_from s words 1) (found rank (length words))

  list-numbers : matches_numbers (phrase_list s rank words) ≡ flat_map (found_numbers rank (length words)) (starts_from s words 1)
  unfolding phrase_list starts_from
  list-numbers = matches_map (found rank (length words)) (starts_from s words 1)

-- before the starts from `from` on: memory was mem₀, and the finds before, so many, are written after the header of the slot at `at`, up to q
pub record Finding (s : Searched) (words : List ℕ) (rank : ℕ) (mem₀ mem : List ℕ) (at q from matches : ℕ) : Type 0 where
  pub rows : Rows (found_numbers rank (length words)) (starts_from s words 1) (starts_from s words from) mem₀ mem (at + 2) q
  pub count : matches + length (starts_from s words from) ≡ length (starts_from s words 1)
  pub q_is : q ≡ at + 2 + 3 * matches
  pub from_one : 1 ≤ from
  pub up_to : from ≤ s.section.tokens + 1

pub find_start : (s : Searched) (words : List ℕ) (rank : ℕ) (mem : List ℕ) (at : ℕ) → Finding s words rank mem mem at (at + 2) 1 0
find_start s words rank mem at = record { rows = rows_start; count = omega arith; q_is = omega arith; from_one = omega arith; up_to = omega arith }

module _ {s : Searched} {words : List ℕ} {rank : ℕ} {mem₀ mem : List ℕ} {at q from matches : ℕ} (g : Finding s words rank mem₀ mem at q from matches) where
  -- the next start
  module _ {p : ℕ} (n : FirstStart s words from (s.section.tokens + 1) p) (h : p ≤ s.section.tokens) where
    here : starts_from s words from ≡ p ∷ starts_from s words (p + 1)
    here = n.skipped.same ∙ starts-here s words p h (n.stands (omega arith))

    -- one find more than the limit
    pub find_over : {exit : List ℕ} → matches ≡ max_matches → Outcome (phrase_list s rank words) mem₀ exit at over
    find_over e = refused (built_long (phrase_list s rank words) (inl (omega (arith, length-list s rank words, g.count, ap length here)))) refl refl

    pub find_step : {mem' : List ℕ} {q' : ℕ} → Put mem mem' q (found_numbers rank (length words) p) q' → Finding s words rank mem₀ mem' at q' (p + 1) (matches + 1)
    find_step v =
        record {
          rows = rows_step g.rows here v;
          count = omega (arith, g.count, ap length here);
          q_is = omega (arith, g.q_is, v.next_is, length_match (found rank (length words) p));
          from_one = omega arith;
          up_to = omega arith;
        }

  -- there is none
  pub find_finish : {exit : List ℕ} → Skipped s words from (s.section.tokens + 1) (s.section.tokens + 1) → matches ≤ max_matches → exit ≡ sets mem at (matches ∷ matches ∷ [])
      → Outcome (phrase_list s rank words) mem₀ exit at (made matches matches)
  find_finish n m e =
      let none = n.same ∙ starts_none s words (s.section.tokens + 1) (omega arith) in
      let matches_are : length (phrase_list s rank words) ≡ matches = omega (arith, length-list s rank words, g.count, ap length none) in
      let strings_are : strings (phrase_list s rank words) ≡ matches = strings-phrase s rank words ∙ matches_are in
      let v = subst (λ xs. Put mem₀ mem (at + 2) xs q) (sym (list-numbers s rank words)) (rows_finish g.rows none) in
      filled (built_made (phrase_list s rank words) matches_are strings_are (omega arith)) v e
