-- The search for the first part with a fault, code by code. Each code but a word ends one part, and the parts of the selection's tree in postfix order
-- are those parts in turn; so the first part with the fault is found at the first code that ends one.
use Prim.Native.Nat.{ℕ, zero, suc, ◌+◌, ◌-◌, ◌≤◌, ◌<◌}
use native.Mathlib.Omega.{arith}
use native.Mathlib.Numerals.{add-one}
use mathlib.Core.Path.{◌≡◌, refl, sym, ap, ◌∙◌}
use mathlib.Core.Bool.{Bool, true, false}
use mathlib.Core.List.{List, [], ◌∷◌, ◌++◌}
use mathlib.Core.Logic.{◌⊎◌, inl, inr, ⊎_elim}
use Rattle.std.specs.Prelude.{Option, Some, None, option_map}
use Rattle.std.specs.Option.{option_or}
use Rattle.model.proofs.OptionLaws.{map-eq-none_iff, none-ne-some}
use Rattle.model.specs.Kinds.{Shape, a_word, a_phrase, a_pair, a_change, is_word, shape_at, shapes_of}
use Rattle.model.specs.Lists.{first, from_to}
use Rattle.model.specs.Parts.{fits_all, well_formed, part_ended_by, waiting_parts, PartAt}
use Rattle.model.specs.Section.{size}
use Rattle.model.specs.Selection.{up_to}
use Rattle.model.specs.Trees.{Tree, place_of, State, read_all, fresh, top_tree, tree_of, parts}
use Rattle.model.proofs.ListsLaws.{first-append, first-range_empty, first-range-here, first-range-later}
use Rattle.model.proofs.PartsLaws.{fits-at, part_at, part-place, part-read}
use Rattle.model.proofs.SelectionLaws.{up_to_split}
use Rattle.model.proofs.TestsLaws.{false-true}
use Rattle.model.proofs.TreesLaws.{read_all-append, read_all-snoc}
use Rattle.model.proofs.WaitingLaws.{read-parts, steps, parsed, fits_all_split, formed}

-- a word ends no part, any other code one
ends-part : (code : Shape) → ((is_word code ≡ true) × ((ts : List Tree) → part_ended_by code ts ≡ [])) ⊎ ((is_word code ≡ false) × ((ts : List Tree) → part_ended_by code ts ≡ top_tree ts ∷ []))
ends-part (a_word v) = inl (refl, λ ts. refl)
ends-part (a_phrase k) = inr (refl, λ ts. refl)
ends-part (a_pair k) = inr (refl, λ ts. refl)
ends-part (a_change k) = inr (refl, λ ts. refl)

abbrev after : (ℕ → Shape) → ℕ → State
after at c = read_all (up_to at c) (fresh 1 1)

-- ---- parts with the fault

module _ (faulty : Tree → Bool) where
  -- the place of the first among some parts
  abbrev pub place_in : List Tree → Option ℕ
  place_in ts = option_map place_of (first faulty ts)

  -- the place found among the parts that end at the first c codes
  abbrev pub found : (ℕ → Shape) → ℕ → Option ℕ
  found at c = place_in (waiting_parts (read_all (up_to at c) (fresh 1 1)).trees)

  place_in-append : (xs ys : List Tree) → place_in xs ≡ None → place_in (xs ++ ys) ≡ place_in ys
  place_in-append xs ys e = ap (option_map place_of) (first-append faulty xs ys ∙ ap (λ o. option_or o (first faulty ys)) ((map-eq-none_iff place_of (first faulty xs)).0 e))

  place_in-found : (xs ys : List Tree) (c : ℕ) → place_in xs ≡ Some c → place_in (xs ++ ys) ≡ Some c
  place_in-found xs ys c e = ap (option_map place_of) (first-append faulty xs ys) ∙ at (first faulty xs) e
    where
      at : (o : Option Tree) → option_map place_of o ≡ Some c → option_map place_of (option_or o (first faulty ys)) ≡ Some c
      at (Some t) e' = e'
      at None e' = absurd (none-ne-some c e')

  place_in-one : (t : Tree) → faulty t ≡ true → place_in (t ∷ []) ≡ Some (place_of t)
  unfolding first
  place_in-one t e = rw e

  place_in-none : (t : Tree) → faulty t ≡ false → place_in (t ∷ []) ≡ None
  unfolding first
  place_in-none t e = rw e

  -- ---- the turns of the search: whether a part has the fault is told at the place where it ends

  module _ (at : ℕ → Shape) (told : ℕ → Bool) (told_is : (c : ℕ) (w : PartAt at c) → faulty w.tree ≡ told c) (m : ℕ) (well : well_formed (up_to at m) ≡ true) where
    module _ (c : ℕ) (h : c < m) where
      -- one code more adds the part that it ends
      adds : waiting_parts (after at (suc c)).trees ≡ waiting_parts (after at c).trees ++ part_ended_by (at (suc c)) (after at (suc c)).trees
      unfolding up_to
      adds =
          let f = fits-at at m well c h in
          let g = steps (up_to at c) (fresh 1 1) f.before in
          let s = read_all-snoc (up_to at c) (at (suc c)) (fresh 1 1) in
          rw s (read-parts (at (suc c)) (read_all (up_to at c) (fresh 1 1)) (rw (g.lists, g.loose) f.here))

      module _ (e : is_word (at (suc c)) ≡ false) where
        part : PartAt at (suc c)
        part = part_at at m well (suc c) (omega arith) h e

        its_fault : faulty (top_tree (after at (suc c)).trees) ≡ told (suc c)
        its_fault = ap faulty (part-read at (suc c) part) ∙ told_is (suc c) part

        its_place : place_of (top_tree (after at (suc c)).trees) ≡ suc c
        its_place = ap place_of (part-read at (suc c) part) ∙ part-place at (suc c) part

      module _ (none_yet : found at c ≡ None) where
        newer : (ts : List Tree) → part_ended_by (at (suc c)) (after at (suc c)).trees ≡ ts → found at (suc c) ≡ place_in ts
        newer ts e = ap place_in adds ∙ place_in-append (waiting_parts (after at c).trees) (part_ended_by (at (suc c)) (after at (suc c)).trees) none_yet ∙ ap place_in e

        not-here : told (suc c) ≡ false → found at (suc c) ≡ None
        unfolding first
        not-here q =
            ⊎_elim
            (λ w. newer [] (w.1 _))
            (λ w. newer _ (w.1 _) ∙ place_in-none (top_tree (after at (suc c)).trees) (its_fault w.0 ∙ q))
            (ends-part (at (suc c)))

        found_here : is_word (at (suc c)) ≡ false → told (suc c) ≡ true → found at (suc c) ≡ Some (suc c)
        found_here k q =
            ⊎_elim
            (λ w. false-true (sym k ∙ w.0))
            (λ w. newer _ (w.1 _) ∙ place_in-one _ (its_fault k ∙ q) ∙ ap Some (its_place k))
            (ends-part (at (suc c)))

        -- the same, with the code's own place
        pub none_after : told (c + 1) ≡ false → found at (c + 1) ≡ None
        none_after q = ap (found at) (add-one c) ∙ not-here (ap told (sym (add-one c)) ∙ q)

        pub some_after : is_word (at (c + 1)) ≡ false → told (c + 1) ≡ true → found at (c + 1) ≡ Some (c + 1)
        some_after k q =
            ap (found at) (add-one c) ∙ found_here (ap (λ n. is_word (at n)) (sym (add-one c)) ∙ k) (ap told (sym (add-one c)) ∙ q) ∙ ap Some (sym (add-one c))

  -- ---- the whole selection

  module _ (sel : List ℕ) (well : well_formed (shapes_of sel) ≡ true) where
    abbrev row : ℕ → Shape
    row = shape_at sel

    -- all codes read, the parts are the tree's
    whole : waiting_parts (after row (size sel)).trees ≡ parts (tree_of sel)
    unfolding tree_of waiting_parts shapes_of top_tree
    whole = let P = parsed (shapes_of sel) well in rw P.alone

    pub found_none : found row (size sel) ≡ None → place_in (parts (tree_of sel)) ≡ None
    found_none e = ap place_in (sym whole) ∙ e

    -- what is found among the first codes is found among all
    pub found_some : (c : ℕ) → c ≤ size sel → (place : ℕ) → found row c ≡ Some place → place_in (parts (tree_of sel)) ≡ Some place
    unfolding shapes_of
    found_some c h place e =
        let rest = up_to (λ i. row (c + i)) (size sel - c) in
        let all_of = up_to_split row c (size sel) h in
        let f = fits_all_split (up_to row c) rest 0 0 (ap (λ l. fits_all l 0 0) (sym all_of) ∙ (formed (up_to row (size sel)) well).fit) in
        let g = steps (up_to row c) (fresh 1 1) f.0 in
        let r = steps rest (after row c) (rw (g.lists, g.loose) f.1) in
        let more : waiting_parts (after row (size sel)).trees ≡ waiting_parts (after row c).trees ++ r.newer =
        ap (λ l. waiting_parts (read_all l (fresh 1 1)).trees) all_of ∙ ap (λ (s : State). waiting_parts s.trees) (read_all-append (up_to row c) rest (fresh 1 1)) ∙ r.adds in
        ap place_in (sym whole ∙ more) ∙ place_in-found (waiting_parts (after row c).trees) r.newer place e

    -- ---- the search for the first place at which a fault is told

    module _ (told : ℕ → Bool) (told_is : (c : ℕ) (w : PartAt row c) → faulty w.tree ≡ told c) (ends : (c : ℕ) → told c ≡ true → is_word (row c) ≡ false) where
      told-from : (left c : ℕ) → c + left ≡ size sel → found row c ≡ None → first told (from_to (c + 1) (size sel)) ≡ place_in (parts (tree_of sel))
      unfolding shapes_of
      told-from zero c h e =
          let all : c ≡ size sel = omega arith in
          first-range_empty told (c + 1) (size sel) (omega arith) ∙ sym (found_none (ap (found row) (sym all) ∙ e))
      told-from (suc left) c h e =
          let more : c < size sel = omega arith in
          let at : c + 1 ≤ size sel = omega arith in
          let rest = told-from left (c + 1) (omega arith) in
          by (told (c + 1)) refl more at rest
        where
          by : (b : Bool) → told (c + 1) ≡ b → c < size sel → c + 1 ≤ size sel
              → (found row (c + 1) ≡ None → first told (from_to (c + 1 + 1) (size sel)) ≡ place_in (parts (tree_of sel)))
              → first told (from_to (c + 1) (size sel)) ≡ place_in (parts (tree_of sel))
          by true q more at rest =
              first-range-here told (c + 1) (size sel) at q
              ∙ sym (found_some (c + 1) at (c + 1) (some_after row told told_is (size sel) well c more e (ends (c + 1) q) q))
          by false q more at rest =
              first-range-later told (c + 1) (size sel) at q ∙ rest (none_after row told told_is (size sel) well c more e q)

      pub first_told : first told (from_to 1 (size sel)) ≡ place_in (parts (tree_of sel))
      unfolding up_to read_all waiting_parts first
      first_told = told-from (size sel) 0 (omega arith) refl
