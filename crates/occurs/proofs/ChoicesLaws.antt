-- Three loops, each of which writes the next after the others (Rows): a choice with every match of the not, every choice of a size, every size.
use Prim.Native.Nat.{ℕ, suc, ◌+◌, ◌-◌, ◌*◌, ◌/◌, ◌≤◌, ◌<◌}
use native.Mathlib.Omega.{arith}
use native.Mathlib.Numerals.{add-one}
use native.Mathlib.Nat.{mul-le-mul}
use mathlib.Core.Path.{◌≡◌, sym, ap, ap₂, ◌∙◌, subst}
use mathlib.Core.List.{List, [], ◌∷◌, flat_map}
use lib.ListN.{length, drop}
use lib.Seq.{drop-cons, drop-length}
use Rattle.model.specs.Limits.{max_matches}
use Rattle.model.specs.Lists.{choose, up_from, from_to}
use Rattle.model.specs.Matches.{Str}
use Rattle.model.proofs.ListsLaws.{range_cons, range_empty}
use Rattle.store.specs.Layout.{matches_at, match_numbers, matches_numbers}
use Rattle.store.specs.Put.{Put}
use Rattle.store.proofs.LayoutLaws.{matches_map, matches_flat_map}
use Rattle.store.proofs.RowsLaws.{Rows, rows_start, rows_room, rows_step, rows_finish}
use Rattle.occurs.specs.Binomial.{binomial, chosen}
use Rattle.occurs.specs.WithNot.{match_of, not_matches, not_excludes, choice_with_not, choices_with_not, at_least_with_not}
use Rattle.occurs.specs.Writing.{JoinedAt, ChoiceAt, ChoicesAt, SizesAt}
use Rattle.occurs.proofs.BinomialLaws.{length-choose, choose-at, size_up}
use Rattle.occurs.proofs.CountsLaws.{choices-more, choices_grow}
use Rattle.occurs.proofs.FindsLaws.{finds-counted, finds-few, source-below}

-- ---- every match of the not

abbrev joined_numbers : ℕ → List Str → List Str → ℕ → List ℕ
joined_numbers excess ss is d = match_numbers (match_of is (not_excludes excess ss d))

choice-numbers : (excess : ℕ) (ss is : List Str)
    → matches_numbers (choice_with_not excess ss is) ≡ flat_map (joined_numbers excess ss is) (up_from 0 (not_matches excess (length ss)))
unfolding choice_with_not
choice-numbers excess ss is = matches_map (λ d. match_of is (not_excludes excess ss d)) (up_from 0 (not_matches excess (length ss)))

-- the choice `is` is written joined with the not's matches before number d, of n
pub record Joining (excess : ℕ) (ss is : List Str) (mem₀ : List ℕ) (at n : ℕ) (mem : List ℕ) (q d : ℕ) : Type 0 where
  pub n_is : n ≡ not_matches excess (length ss)
  pub rows : Rows (joined_numbers excess ss is) (up_from 0 n) (up_from d (n - d)) mem₀ mem at q

module _ {mem₀ : List ℕ} {src k total c excess at : ℕ} (w : ChoiceAt mem₀ src k total c excess at) where
  pub join-start : {m n : ℕ} → m ≡ matches_at mem₀ src → n ≡ not_matches excess m
      → Joining excess w.finds (chosen k w.finds c) mem₀ at n mem₀ at 0
  join-start {n = n} e f =
      let none : n - 0 ≡ n = omega arith in
      record { n_is = f ∙ ap (not_matches excess) (e ∙ finds-counted w.finds w.source.slot); rows = rw none rows_start }

  module _ {n : ℕ} {mem : List ℕ} {q d : ℕ} (g : Joining excess w.finds (chosen k w.finds c) mem₀ at n mem q d) where
    numbers : matches_numbers (choice_with_not excess w.finds (chosen k w.finds c))
        ≡ flat_map (joined_numbers excess w.finds (chosen k w.finds c)) (up_from 0 n)
    numbers =
        choice-numbers excess w.finds (chosen k w.finds c)
        ∙ ap (λ j. flat_map (joined_numbers excess w.finds (chosen k w.finds c)) (up_from 0 j)) (sym g.n_is)

    module _ (h : d < n) where
      next_match : up_from d (n - d) ≡ d ∷ up_from (d + 1) (n - (d + 1))
      unfolding up_from
      next_match = let e : n - d ≡ suc (n - (d + 1)) = omega arith in rw e

      pub joined_at : JoinedAt mem src k total c excess d q
      joined_at =
          record {
            finds = w.finds;
            source = source-below w.source (omega arith) g.rows.put;
            size = w.size;
            too_many = w.too_many;
            choice = w.in_range;
            in_range = subst (λ j. d < j) g.n_is h;
            room = rows_room g.rows next_match (subst (λ xs. at + length xs ≤ length mem₀) numbers w.room);
          }

      pub join_step : {mem' : List ℕ} {q' : ℕ}
          → ((x : JoinedAt mem src k total c excess d q)
          → Put mem mem' q (match_numbers (match_of (chosen k x.finds c) (not_excludes excess x.finds d))) q')
          → Joining excess w.finds (chosen k w.finds c) mem₀ at n mem' q' (d + 1)
      unfolding joined_at
      join_step v = record { n_is = g.n_is; rows = rows_step g.rows next_match (v joined_at) }

    pub join_finish : n ≤ d → Put mem₀ mem at (matches_numbers (choice_with_not excess w.finds (chosen k w.finds c))) q
    unfolding up_from
    join_finish h = let e : n - d ≡ 0 = omega arith in subst (λ xs. Put mem₀ mem at xs q) (sym numbers) (rows_finish g.rows (ap (up_from d) e))

-- ---- every choice of a size

abbrev choice_numbers : ℕ → List Str → List Str → List ℕ
choice_numbers excess ss is = matches_numbers (choice_with_not excess ss is)

choices-numbers : (excess : ℕ) (ss : List Str) (k : ℕ) → matches_numbers (choices_with_not excess ss k) ≡ flat_map (choice_numbers excess ss) (choose k ss)
unfolding choices_with_not
choices-numbers excess ss k = matches_flat_map (choice_with_not excess ss) (choose k ss)

-- the choices of k before number c are written
abbrev pub Choosing : ℕ → List Str → ℕ → List ℕ → ℕ → List ℕ → ℕ → ℕ → Type 0
Choosing excess ss k mem₀ at mem q c = Rows (choice_numbers excess ss) (choose k ss) (drop c (choose k ss)) mem₀ mem at q

module _ {mem₀ : List ℕ} {src k total excess at : ℕ} (w : ChoicesAt mem₀ src k total excess at) where
  pub choose-start : Choosing excess w.finds k mem₀ at mem₀ at 0
  choose-start = rows_start

  length_all : length (choose k w.finds) ≡ total
  length_all = length-choose k w.finds ∙ sym w.size.total_is

  module _ {mem : List ℕ} {q c : ℕ} (g : Choosing excess w.finds k mem₀ at mem q c) where
    module _ (h : c < total) where
      next-choice : drop c (choose k w.finds) ≡ chosen k w.finds c ∷ drop (c + 1) (choose k w.finds)
      next-choice =
          drop-cons (choose k w.finds) c [] (omega (arith, length_all))
          ∙ ap₂ (λ is j. is ∷ drop j (choose k w.finds)) (choose-at k w.finds c (subst (λ n. c < n) w.size.total_is h)) (sym (add-one c))

      pub choice-at : ChoiceAt mem src k total c excess q
      choice-at =
          record {
            finds = w.finds;
            source = source-below w.source (omega arith) g.put;
            size = w.size;
            too_many = w.too_many;
            in_range = h;
            room = rows_room g next-choice (subst (λ xs. at + length xs ≤ length mem₀) (choices-numbers excess w.finds k) w.room);
          }

      pub choose_step : {mem' : List ℕ} {q' : ℕ}
          → ((x : ChoiceAt mem src k total c excess q) → Put mem mem' q (matches_numbers (choice_with_not excess x.finds (chosen k x.finds c))) q')
          → Choosing excess w.finds k mem₀ at mem' q' (c + 1)
      unfolding choice-at
      choose_step v = rows_step g next-choice (v choice-at)

    pub choose_finish : c ≤ total → total ≤ c → Put mem₀ mem at (matches_numbers (choices_with_not excess w.finds k)) q
    choose_finish h l =
        let end : c ≡ length (choose k w.finds) = omega (arith, length_all) in
        subst (λ xs. Put mem₀ mem at xs q) (sym (choices-numbers excess w.finds k))
        (rows_finish g (ap (λ j. drop j (choose k w.finds)) end ∙ drop-length (choose k w.finds)))

-- ---- every size

abbrev size_numbers : ℕ → List Str → ℕ → List ℕ
size_numbers excess ss k = matches_numbers (choices_with_not excess ss k)

all_numbers : (a excess : ℕ) (ss : List Str) → matches_numbers (at_least_with_not a excess ss) ≡ flat_map (size_numbers excess ss) (from_to a (length ss))
unfolding at_least_with_not
all_numbers a excess ss = matches_flat_map (choices_with_not excess ss) (from_to a (length ss))

-- the choices of a to k - 1 of m finds are written, and those of k are so many
pub record Sizing (excess : ℕ) (ss : List Str) (a : ℕ) (mem₀ : List ℕ) (at m : ℕ) (mem : List ℕ) (q k total : ℕ) : Type 0 where
  pub m_is : m ≡ length ss
  pub few-finds : m ≤ max_matches
  pub from_a : a ≤ k
  pub total_is : total ≡ binomial m k
  pub rows : Rows (size_numbers excess ss) (from_to a (length ss)) (from_to k (length ss)) mem₀ mem at q

module _ {mem₀ : List ℕ} {src a fewest excess at : ℕ} (w : SizesAt mem₀ src a fewest excess at) where
  pub size-start : {m : ℕ} → m ≡ matches_at mem₀ src → Sizing excess w.finds a mem₀ at m mem₀ at a fewest
  size-start e =
      let m_is = e ∙ finds-counted w.finds w.source.slot in
      record {
        m_is = m_is;
        few-finds = omega (arith, m_is, finds-few w.finds w.source.slot);
        from_a = omega arith;
        total_is = w.fewest_is ∙ ap (λ j. binomial j a) (sym m_is);
        rows = rows_start;
      }

  module _ {m : ℕ} {mem : List ℕ} {q k total : ℕ} (g : Sizing excess w.finds a mem₀ at m mem q k total) where
    module _ (h : k < m + 1) where
      total_of : total ≡ binomial (length w.finds) k
      total_of = g.total_is ∙ ap (λ j. binomial j k) g.m_is

      next-size : from_to k (length w.finds) ≡ k ∷ from_to (k + 1) (length w.finds)
      next-size = range_cons k (length w.finds) (omega (arith, g.m_is))

      -- no more choices of one size than of all
      few : total ≤ max_matches
      few =
          let n = length w.finds in
          omega (
            arith,
            total_of,
            choices-more n k (omega (arith, g.m_is)),
            choices_grow n k a (omega (arith, g.from_a)) (omega (arith, g.m_is)),
            w.few,
          )

      pub product_fits : total * (m - k) ≤ 65536
      product_fits = mul-le-mul {n₂ = 256} {m₂ = 256} few (omega (arith, g.few-finds))

      pub choices-at : ChoicesAt mem src k total excess q
      choices-at =
          record {
            finds = w.finds;
            source = source-below w.source (omega arith) g.rows.put;
            size = record { total_is = total_of; few = few; small = omega (arith, g.few-finds) };
            too_many = w.too_many;
            room = rows_room g.rows next-size (subst (λ xs. at + length xs ≤ length mem₀) (all_numbers a excess w.finds) w.room);
          }

      pub size_step : {mem' : List ℕ} {q' : ℕ}
          → ((x : ChoicesAt mem src k total excess q) → Put mem mem' q (matches_numbers (choices_with_not excess x.finds k)) q')
          → Sizing excess w.finds a mem₀ at m mem' q' (k + 1) (total * (m - k) / (k + 1))
      unfolding choices-at
      size_step v =
          record {
            m_is = g.m_is;
            few-finds = g.few-finds;
            from_a = omega (arith, g.from_a);
            total_is = ap (λ t. t * (m - k) / (k + 1)) g.total_is ∙ size_up m k (omega arith);
            rows = rows_step g.rows next-size (v choices-at);
          }

    pub size_finish : m + 1 ≤ k → Put mem₀ mem at (matches_numbers (at_least_with_not a excess w.finds)) q
    size_finish h =
        subst (λ xs. Put mem₀ mem at xs q) (sym (all_numbers a excess w.finds))
        (rows_finish g.rows (range_empty k (length w.finds) (omega (arith, g.m_is))))
