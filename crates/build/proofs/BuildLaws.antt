-- Code by code: the lists of the trees that wait after the first codes of a part lie in memory, and none of the lists built so far is too long. The
-- next code adds one list, which is that of the next part in postfix order; after the last code the part's own list lies alone.
use Prim.Native.Nat.{ℕ, suc, ◌+◌, ◌-◌, ◌≤◌, ◌<◌}
use native.Mathlib.Omega.{arith}
use mathlib.Core.Path.{◌≡◌, refl, sym, ap, ap₂, ◌∙◌, subst}
use mathlib.Core.Bool.{true, false, ◌&&◌}
use mathlib.Core.List.{List, [], ◌∷◌, map}
use Rattle.std.specs.Prelude.{Option, Some, None, option_map, Ok, Err}
use Rattle.std.specs.Option.{option_or}
use lib.Dec.{eqb, ltb}
use lib.ListN.{length}
use borrow.Author.Tests.{eqb-true}
use Rattle.model.specs.declared.Reason.TheVariants.{LongList}
use Rattle.model.specs.declared.Code.{Code}
use Rattle.model.specs.declared.Code.TheVariants.{Phrase}
use Rattle.model.specs.Accepted.{max_phrases}
use Rattle.model.specs.AllMatches.{all_matches}
use Rattle.model.specs.AllStrings.{RanksUpTo}
use Rattle.model.specs.Checks.{occurs_over_other, refusal}
use Rattle.model.specs.Kinds.{Shape, shape_of, arity, shape_at}
use Rattle.model.specs.Limits.{max_waiting}
use Rattle.model.specs.Lists.{Every, first}
use Rattle.model.specs.Parts.{part_ended_by, phrases_ended, rank_after, state_at, waiting_parts}
use Rattle.model.specs.Families.{Searched, searched_of}
use Rattle.model.specs.Section.{size}
use Rattle.model.specs.Selection.{code_at}
use Rattle.model.specs.Trees.{State, Tree, parts, read}
use Rattle.model.specs.Waiting.{fits, lists_after}
use Rattle.model.specs.Walk.{first_too_long}
use Rattle.model.proofs.BuildLaws.{Fits, built_fits, built_parts, built_tree, part-below, place-state}
use Rattle.model.proofs.PartsLaws.{start-le}
use Rattle.model.proofs.TestsLaws.{both_true}
use Rattle.model.proofs.WaitingLaws.{fit_of, step}
use Rattle.model.proofs.WalkLaws.{first_too_long-append}
use Rattle.selection.specs.Phrases.{phrase_words}
use Rattle.store.specs.Built.{Built, made, over}
use Rattle.store.specs.Slot.{SlotHolds}
use Rattle.store.specs.Stack.{Stack}
use Rattle.store.proofs.StackLaws.{stack-last}
use Rattle.build.specs.PartList.{PartList}
use Rattle.build.specs.State.{Buildable, Waits, WaitsAt, AfterCode}
use Rattle.build.proofs.WaitingTreesLaws.{part_formed, ranks-state, phrases-state, phrases-below, rank-read, rank-state}
use Rattle.build.proofs.WordsLaws.{Loose, loose_state, phrase_words_lem, window-size, times_rise}

module _ {section families sel mem₀ : List ℕ} {lo hi rank : ℕ} (w : Buildable section families sel mem₀ lo hi rank) where
  -- what waits after the first n codes of the part
  abbrev pub waits_after : ℕ → State
  waits_after n = state_at (shape_at sel) lo (rank_after w.part.below) n

  pub record Going (mem : List ℕ) (lists next c : ℕ) : Type 0 where
    pub n : ℕ
    pub here : c ≡ lo + n
    pub up_to : c ≤ hi
    pub long : length mem ≡ length mem₀
    pub stack : Stack mem (map (all_matches (searched_of section families)) (waits_after n).trees)
    pub count : lists ≡ length (waits_after n).trees
    pub rank_is : next ≡ (waits_after n).rank
    pub valid : first_too_long (searched_of section families) (waiting_parts (waits_after n).trees) ≡ None

  fits_next : (n : ℕ) → n < hi - lo → Fits (shape_at sel (lo + suc n)) (waits_after n)
  fits_next = built_fits (shape_at sel) hi lo w.part w.lo_is (part_formed sel w.in_selection hi w.part w.up_to)

  pub lo_le : lo ≤ hi
  lo_le = omega (arith, w.lo_is, start-le (shape_at sel) hi)

  pub start : Going mem₀ 0 rank lo
  unfolding state_at Stack first_too_long first waiting_parts
  start =
      record { n = 0; here = omega arith; up_to = lo_le; long = refl; stack = tt; count = refl; rank_is = w.rank_is; valid = refl }

  module _ {mem : List ℕ} {lists next c : ℕ} (g : Going mem lists next c) where
    -- no rank is out of range
    pub rank-few : next ≤ size sel + size sel + 1
    rank-few =
        omega (arith, g.rank_is, rank-state (shape_at sel) lo (rank_after w.part.below) g.n, phrases-below w.part.below, part-below (shape_at sel) hi lo w.part w.lo_is, lo_le, w.up_to, g.here, g.up_to)

    pub lists-few : c < hi → lists ≤ max_waiting
    lists-few h = omega (arith, g.count, (fits_next g.n (omega (arith, g.here))).few_trees)

    -- the code at the next place
    module _ (h : c < hi) {code : Code} {c' : ℕ} (c-is : c' ≡ c + 1) (e : code ≡ code_at sel c') where
      place-next : c' ≡ lo + suc g.n
      place-next = omega (arith, g.here)

      shape_next : shape_of code ≡ shape_at sel (lo + suc g.n)
      shape_next = ap shape_of (e ∙ ap (code_at sel) place-next)

      inside : g.n < hi - lo
      inside = omega (arith, g.here)

      fits-here : fits (shape_of code) (length (waits_after g.n).trees) (length (waits_after g.n).words) ≡ true
      fits-here = ap (λ (x : Shape). fits x (length (waits_after g.n).trees) (length (waits_after g.n).words)) shape_next ∙ (fits_next g.n inside).here

      pub lists-found : arity (shape_of code) ≤ lists
      lists-found = omega (arith, g.count, (fit_of (shape_of code) (length (waits_after g.n).trees) (length (waits_after g.n).words) fits-here).finds)

      pub words-here : (k : ℕ) → code ≡ Phrase k → phrase_words sel c' ≡ (waits_after g.n).words
      words-here k q =
          let ws = (waits_after g.n).words in
          let ts = (waits_after g.n).trees in
          let f : (eqb (length ws) k && ltb (length ts) max_waiting) ≡ true = ap (λ (x : Code). fits (shape_of x) (length ts) (length ws)) (sym q) ∙ fits-here in
          let l = eqb-true (length ws) k (both_true (eqb (length ws) k) (ltb (length ts) max_waiting) f).0 in
          let loose = loose_state sel w.in_selection lo (rank_after w.part.below) g.n (omega (arith, w.up_to, g.here)) (λ i j. fits_next i (omega (arith, inside))) in
          phrase_words_lem sel w.in_selection c' (omega arith) (omega (arith, w.up_to)) k ws (sym e ∙ q) l (subst (λ (i : ℕ). Loose sel i ws) (sym place-next) loose)

      ranks-here : Every (RanksUpTo max_phrases) (read (shape_of code) (waits_after g.n)).trees
      unfolding state_at
      ranks-here =
          subst (λ (x : Shape). Every (RanksUpTo max_phrases) (read x (waits_after g.n)).trees) (sym shape_next)
          (ranks-state sel w.in_selection hi w.part w.up_to lo w.lo_is (suc g.n) inside)

      phrases-here : Every (λ t. occurs_over_other t ≡ false) (read (shape_of code) (waits_after g.n)).trees
      unfolding state_at
      phrases-here =
          subst (λ (x : Shape). Every (λ t. occurs_over_other t ≡ false) (read x (waits_after g.n)).trees) (sym shape_next)
          (phrases-state sel w.in_selection hi w.part w.up_to lo w.lo_is (suc g.n) inside)

      -- it fits where it stands
      pub waits_facts : Waits section families mem (shape_of code) (waits_after g.n) c' next lists
      waits_facts =
          record {
            accepted = w.in_section;
            accepted_families = w.in_families;
            stack = g.stack;
            count = g.count;
            place_is = place-next ∙ sym (place-state (shape_at sel) lo (rank_after w.part.below) g.n);
            rank_is = g.rank_is;
            here = fits-here;
            few_trees = (fits_next g.n inside).few_trees;
            few_words = (fits_next g.n inside).few_words;
            ranks = ranks-here;
            over_phrases = phrases-here;
            room = omega (arith, w.room, g.long);
          }

      unfoldable pub waits-next : WaitsAt section families sel mem code c' next lists
      waits-next =
          record {
            state = waits_after g.n;
            waits = waits_facts;
            words = words-here;
            window = λ n q. window-size sel w.in_selection c' (omega arith) (omega (arith, w.up_to)) n (sym e ∙ q);
            times = λ a b q. times_rise sel w.in_selection c' (omega arith) (omega (arith, w.up_to)) a b (sym e ∙ q);
          }

      module _ {mem' : List ℕ} {built : Built} (f : (v : WaitsAt section families sel mem code c' next lists) → AfterCode (searched_of section families) (shape_of code) v.state c' mem' built) where
        after : AfterCode (searched_of section families) (shape_at sel (lo + suc g.n)) (waits_after g.n) c' mem' built
        unfolding waits-next
        after = subst (λ (x : Shape). AfterCode (searched_of section families) x (waits_after g.n) c' mem' built) shape_next (f waits-next)

        -- the parts that end so far, with the code's own
        found : (o : Option ℕ) → first_too_long (searched_of section families) (part_ended_by (shape_at sel (lo + suc g.n)) (waits_after (suc g.n)).trees) ≡ o
            → first_too_long (searched_of section families) (waiting_parts (waits_after (suc g.n)).trees) ≡ o
        unfolding state_at
        found o q =
            let S = searched_of section families in
            let s = waits_after g.n in
            let x = shape_at sel (lo + suc g.n) in
            let more = (step x s.trees s.words s.place s.rank (fits_next g.n inside).here).adds in
            ap (first_too_long S) more ∙ first_too_long-append S (waiting_parts s.trees) (part_ended_by x (read x s).trees) ∙ ap₂ option_or g.valid q

        -- its list is too long: the first that is
        pub refuse : built ≡ over → first_too_long (searched_of section families) (parts w.part.tree) ≡ Some c'
        unfolding state_at
        refuse t =
            let S = searched_of section families in
            let ts = (waits_after (suc g.n)).trees in
            let b = built_parts (shape_at sel) hi lo w.part w.lo_is (part_formed sel w.in_selection hi w.part w.up_to) (suc g.n) inside in
            ap (first_too_long S) b.1 ∙ first_too_long-append S (waiting_parts ts) b.0 ∙ ap (λ (o : Option ℕ). option_or o (first_too_long S b.0)) (found (Some c') (after.long t))

        -- its list waits: the next code
        pub go_on : {m s lists' next' : ℕ} → built ≡ made m s → length mem' ≡ length mem → lists' ≡ lists_after (shape_of code) lists → next' ≡ next + phrases_ended (shape_of code) → Going mem' lists' next' c'
        unfolding state_at
        go_on {m} {s} {lists'} {next'} b l i j =
            let z = waits_after g.n in
            let x = shape_at sel (lo + suc g.n) in
            let more = step x z.trees z.words z.place z.rank (fits_next g.n inside).here in
            record {
              n = suc g.n;
              here = place-next;
              up_to = omega arith;
              long = l ∙ g.long;
              stack = after.stack m s b;
              count = i ∙ ap₂ lists_after shape_next g.count ∙ sym more.lists;
              rank_is = j ∙ ap₂ (λ (k : ℕ) (y : Shape). k + phrases_ended y) g.rank_is shape_next ∙ sym (rank-read x z);
              valid = found None (after.valid m s b);
            }

    -- after the last code the part's tree waits alone
    module _ (h : hi ≤ c) where
      state-end : (waits_after g.n).trees ≡ w.part.tree ∷ []
      state-end =
          let e : g.n ≡ hi - lo = omega (arith, g.here, g.up_to) in
          ap (λ (i : ℕ). (waits_after i).trees) e ∙ ap (λ (s : State). s.trees) (built_tree (shape_at sel) hi lo w.part w.lo_is)

      pub end-slot : SlotHolds mem 0 (all_matches (searched_of section families) w.part.tree)
      end-slot =
          stack-last mem (all_matches (searched_of section families) w.part.tree) []
          (subst (λ (ts : List Tree). Stack mem (map (all_matches (searched_of section families)) ts)) state-end g.stack)

      pub end_fine : first_too_long (searched_of section families) (parts w.part.tree) ≡ None
      unfolding waiting_parts
      end_fine = ap (λ (ts : List Tree). first_too_long (searched_of section families) (waiting_parts ts)) (sym state-end) ∙ g.valid

-- ---- PartList

module _ {s : Searched} {t : Tree} {mem : List ℕ} where
  pub part-long : {place : ℕ} → first_too_long s (parts t) ≡ Some place → PartList s t mem (Err (refusal LongList place))
  part-long {place} e =
      record {
        slot = λ b. absurd (let z : ◌≡◌ {A = ℕ} 0 1 = cc in omega arith);
        valid = λ b. absurd (let z : ◌≡◌ {A = ℕ} 0 1 = cc in omega arith);
        refused = λ r b. let z : refusal LongList place ≡ r = cc in ap (option_map (refusal LongList)) e ∙ ap Some z;
      }

  pub part_built : SlotHolds mem 0 (all_matches s t) → first_too_long s (parts t) ≡ None → PartList s t mem (Ok tt)
  part_built h e = record { slot = λ b. h; valid = λ b. e; refused = λ r b. absurd (let z : ◌≡◌ {A = ℕ} 0 1 = cc in omega arith) }
