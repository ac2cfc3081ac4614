-- One code read: the trees that wait before it give the lists that its rule takes, and the tree that waits after it has the list that the rule gives.
use Prim.Native.Nat.{ℕ, ◌≤◌, ◌<◌}
use native.Mathlib.Omega.{arith}
use mathlib.Core.Path.{◌≡◌, refl, sym, ap, ◌∙◌, subst}
use mathlib.Core.Bool.{Bool, true, false, ◌&&◌}
use mathlib.Core.List.{List, [], ◌∷◌, map}
use Rattle.std.specs.Prelude.{Some, option_map}
use lib.Dec.{eqb, ltb}
use lib.ListN.{length, length-map}
use borrow.Author.Tests.{ltb-true, not-false}
use Rattle.model.specs.declared.Pair.{Pair}
use Rattle.model.specs.declared.Times.{Times}
use Rattle.model.specs.Accepted.{max_phrases}
use Rattle.model.specs.AllMatches.{all_matches, pair_list, change_list, occurs_list}
use Rattle.model.specs.AllStrings.{EveryPhrase, RanksUpTo, AllList}
use Rattle.model.specs.Checks.{is_phrase}
use Rattle.model.specs.Kinds.{Change, occurring, Shape, a_word, a_phrase, a_pair, a_change}
use Rattle.model.specs.Limits.{max_waiting}
use Rattle.model.specs.Lists.{Every, first}
use Rattle.model.specs.Matches.{Str, Match, too_long}
use Rattle.model.specs.Parts.{state}
use Rattle.model.specs.Rules.{phrase_list}
use Rattle.model.specs.Families.{Searched, searched_of}
use Rattle.model.specs.Section.{section_of}
use Rattle.model.specs.Trees.{Tree, phrase, pair, change, State, read, combine, change_last, place_of, top_tree}
use Rattle.model.specs.Waiting.{fits}
use Rattle.model.specs.Walk.{first_too_long}
use Rattle.store.specs.Built.{Built, made}
use Rattle.store.specs.ValidStr.{ValidStr}
use Rattle.model.proofs.TestsLaws.{both_true, false-true}
use Rattle.model.proofs.WaitingLaws.{fit_of}
use Rattle.store.proofs.ValidStrLaws.{valid_matches}
use Rattle.store.proofs.SlotsLaws.{answer_made, answer-long}
use Rattle.occurs.specs.Finds.{find, finds_of}
use Rattle.occurs.proofs.FindsLaws.{phrase-finds}
use Rattle.build.specs.Steps.{NoneTaken, OneTaken, FindsTaken, TwoTaken, Pushed}
use Rattle.build.specs.State.{Waits, After, AfterCode}

-- ---- first_too_long of one tree

first_one : (s : Searched) (t : Tree) (b : Bool) → too_long (all_matches s t) ≡ b → first_too_long s (t ∷ []) ≡ option_map place_of (first (λ (u : Tree). b) (t ∷ []))
unfolding first_too_long first
first_one s t b e = rw e

-- a list pushed is that of the tree that waits as the last
pub grown : {s : Searched} {mem : List ℕ} {built : Built} {place : ℕ} (t : Tree) (ts : List Tree) → place ≡ place_of t
    → Pushed (all_matches s t) (map (all_matches s) ts) mem built → After s (t ∷ []) (t ∷ ts) place mem built
unfolding first
grown {s} t ts p a =
    record {
      long = λ e. first_one s t true (answer-long (all_matches s t) (sym e ∙ a.answered)) ∙ ap Some (sym p);
      valid = λ m n e. first_one s t false (answer_made (all_matches s t) (sym e ∙ a.answered)).fits;
      stack = a.waits;
    }

-- a phrase's list is its finds
phrase_list_lem : (s : Searched) (t : Tree) → is_phrase t ≡ true → (finds : List Str) × (all_matches s t ≡ map find finds)
unfolding all_matches
phrase_list_lem s (phrase c rank words) e = (finds_of s rank words, phrase-finds s rank words)
phrase_list_lem s (pair k c t u) e = false-true e
phrase_list_lem s (change k c t) e = false-true e

-- the tree of a phrase
abbrev leaf : State → Tree
leaf s = phrase s.place s.rank s.words

module _ {section families mem : List ℕ} {place rank lists : ℕ} where
  -- every string of the list of the tree that waits as the last after a code is valid
  valid-last : {shape : Shape} {s : State} (t : Tree) (ts : List Tree) → (read shape s).trees ≡ t ∷ ts
      → Waits section families mem shape s place rank lists → AllList ValidStr (all_matches (searched_of section families) t)
  unfolding Every
  valid-last t ts e w = valid_matches (searched_of section families) t w.accepted.few (subst (Every (RanksUpTo max_phrases)) e w.ranks).0

  -- ---- a_phrase

  module _ {shape : Shape} {s : State} (k : ℕ) (e : shape ≡ a_phrase k) (ws : List ℕ) (ws-are : ws ≡ s.words)
      (w : Waits section families mem shape s place rank lists) where
    leaf_list : phrase_list (searched_of section families) rank ws ≡ all_matches (searched_of section families) (leaf s)
    unfolding all_matches
    leaf_list = ap (λ (r : ℕ). phrase_list (searched_of section families) r ws) w.rank_is ∙ ap (phrase_list (searched_of section families) s.rank) ws-are

    leaf_last : (read shape s).trees ≡ leaf s ∷ s.trees
    unfolding read
    leaf_last = ap (λ (x : Shape). (read x s).trees) e

    leaf_fits : length s.trees < max_waiting
    leaf_fits =
        let f : (eqb (length s.words) k && ltb (length s.trees) max_waiting) ≡ true = ap (λ (x : Shape). fits x (length s.trees) (length s.words)) (sym e) ∙ w.here in
        ltb-true (length s.trees) max_waiting (both_true (eqb (length s.words) k) (ltb (length s.trees) max_waiting) f).1

    pub phrase-few : length ws ≤ max_waiting
    phrase-few = rw ws-are w.few_words

    pub phrase-rank : rank ≤ max_phrases
    unfolding Every EveryPhrase
    phrase-rank = let r = (subst (Every (RanksUpTo max_phrases)) leaf_last w.ranks).0 in omega (arith, w.rank_is, r.up_to)

    unfoldable none-taken : NoneTaken (phrase_list (searched_of section families) rank ws) mem lists
    none-taken =
        record {
          rest = map (all_matches (searched_of section families)) s.trees;
          stack = w.stack;
          count = w.count ∙ sym (length-map s.trees (all_matches (searched_of section families)));
          few = omega (arith, w.count, leaf_fits);
          room = w.room;
          valid = subst (AllList ValidStr) (sym leaf_list) (valid-last (leaf s) s.trees leaf_last w);
        }

    -- what its rule wants, and what that leaves
    pub phrase-taken : NoneTaken (phrase_list (searched_of section families) rank ws) mem lists
    phrase-taken = none-taken

    pub phrase-after : {mem' : List ℕ} {built : Built} → ((v : NoneTaken (phrase_list (searched_of section families) rank ws) mem lists)
        → Pushed (phrase_list (searched_of section families) rank ws) v.rest mem' built)
        → AfterCode (searched_of section families) shape s place mem' built
    unfolding none-taken read top_tree place_of
    phrase-after {mem'} {built} f =
        let rest = map (all_matches (searched_of section families)) s.trees in
        let a = subst (λ (l : List Match). Pushed l rest mem' built) leaf_list (f none-taken) in
        subst (λ (x : Shape). AfterCode (searched_of section families) x s place mem' built) (sym e) (grown (leaf s) s.trees w.place_is a)

  -- ---- a_pair

  module _ (k : Pair) (ws : List ℕ) (p r : ℕ) where
    module _ (u t : Tree) (ts : List Tree) (w : Waits section families mem (a_pair k) (state (u ∷ t ∷ ts) ws p r) place rank lists) where
      unfoldable two-taken : TwoTaken (pair_list k) mem lists
      unfolding read combine all_matches
      two-taken =
          record {
            lefts = all_matches (searched_of section families) t;
            rights = all_matches (searched_of section families) u;
            rest = map (all_matches (searched_of section families)) ts;
            stack = w.stack;
            count = omega (arith, w.count, length-map ts (all_matches (searched_of section families)));
            few = omega (arith, w.count, w.few_trees);
            room = w.room;
            valid = valid-last (pair k p t u) ts refl w;
          }

      two-after : {mem' : List ℕ} {built : Built} → ((v : TwoTaken (pair_list k) mem lists) → Pushed (pair_list k v.lefts v.rights) v.rest mem' built)
          → AfterCode (searched_of section families) (a_pair k) (state (u ∷ t ∷ ts) ws p r) place mem' built
      unfolding two-taken read combine top_tree place_of all_matches
      two-after f = grown (pair k p t u) ts w.place_is (f two-taken)

    pair_taken' : (ts : List Tree) → Waits section families mem (a_pair k) (state ts ws p r) place rank lists → TwoTaken (pair_list k) mem lists
    pair_taken' [] w = absurd (omega (arith, (fit_of (a_pair k) 0 (length ws) w.here).finds))
    pair_taken' (u ∷ []) w = absurd (omega (arith, (fit_of (a_pair k) 1 (length ws) w.here).finds))
    pair_taken' (u ∷ t ∷ ts) w = two-taken u t ts w

    pair_after' : {mem' : List ℕ} {built : Built} (ts : List Tree) → Waits section families mem (a_pair k) (state ts ws p r) place rank lists
        → ((v : TwoTaken (pair_list k) mem lists) → Pushed (pair_list k v.lefts v.rights) v.rest mem' built)
        → AfterCode (searched_of section families) (a_pair k) (state ts ws p r) place mem' built
    pair_after' [] w f = absurd (omega (arith, (fit_of (a_pair k) 0 (length ws) w.here).finds))
    pair_after' (u ∷ []) w f = absurd (omega (arith, (fit_of (a_pair k) 1 (length ws) w.here).finds))
    pair_after' (u ∷ t ∷ ts) w f = two-after u t ts w f

  module _ {shape : Shape} {s : State} (k : Pair) (e : shape ≡ a_pair k) (w : Waits section families mem shape s place rank lists) where
    as_pair : Waits section families mem (a_pair k) s place rank lists
    as_pair = subst (λ (x : Shape). Waits section families mem x s place rank lists) e w

    pub pair-taken : TwoTaken (pair_list k) mem lists
    pair-taken = pair_taken' k s.words s.place s.rank s.trees as_pair

    pub pair-after : {mem' : List ℕ} {built : Built} → ((v : TwoTaken (pair_list k) mem lists) → Pushed (pair_list k v.lefts v.rights) v.rest mem' built)
        → AfterCode (searched_of section families) shape s place mem' built
    pair-after {mem'} {built} f =
        subst (λ (x : Shape). AfterCode (searched_of section families) x s place mem' built) (sym e) (pair_after' k s.words s.place s.rank s.trees as_pair f)

  -- ---- a_change

  module _ (k : Change) (ws : List ℕ) (p r : ℕ) where
    module _ (t : Tree) (ts : List Tree) (w : Waits section families mem (a_change k) (state (t ∷ ts) ws p r) place rank lists) where
      unfoldable one-taken : OneTaken (change_list (section_of section) k) mem lists
      unfolding read change_last all_matches
      one-taken =
          record {
            list = all_matches (searched_of section families) t;
            rest = map (all_matches (searched_of section families)) ts;
            stack = w.stack;
            count = omega (arith, w.count, length-map ts (all_matches (searched_of section families)));
            few = omega (arith, w.count, w.few_trees);
            room = w.room;
            valid = valid-last (change k p t) ts refl w;
          }

      one-after : {mem' : List ℕ} {built : Built} → ((v : OneTaken (change_list (section_of section) k) mem lists) → Pushed (change_list (section_of section) k v.list) v.rest mem' built)
          → AfterCode (searched_of section families) (a_change k) (state (t ∷ ts) ws p r) place mem' built
      unfolding one-taken read change_last top_tree place_of all_matches
      one-after f = grown (change k p t) ts w.place_is (f one-taken)

    change_taken' : (ts : List Tree) → Waits section families mem (a_change k) (state ts ws p r) place rank lists → OneTaken (change_list (section_of section) k) mem lists
    change_taken' [] w = absurd (omega (arith, (fit_of (a_change k) 0 (length ws) w.here).finds))
    change_taken' (t ∷ ts) w = one-taken t ts w

    change_after' : {mem' : List ℕ} {built : Built} (ts : List Tree) → Waits section families mem (a_change k) (state ts ws p r) place rank lists
        → ((v : OneTaken (change_list (section_of section) k) mem lists) → Pushed (change_list (section_of section) k v.list) v.rest mem' built)
        → AfterCode (searched_of section families) (a_change k) (state ts ws p r) place mem' built
    change_after' [] w f = absurd (omega (arith, (fit_of (a_change k) 0 (length ws) w.here).finds))
    change_after' (t ∷ ts) w f = one-after t ts w f

  module _ {shape : Shape} {s : State} (k : Change) (e : shape ≡ a_change k) (w : Waits section families mem shape s place rank lists) where
    as_change : Waits section families mem (a_change k) s place rank lists
    as_change = subst (λ (x : Shape). Waits section families mem x s place rank lists) e w

    pub change-taken : OneTaken (change_list (section_of section) k) mem lists
    change-taken = change_taken' k s.words s.place s.rank s.trees as_change

    pub change-after : {mem' : List ℕ} {built : Built} → ((v : OneTaken (change_list (section_of section) k) mem lists) → Pushed (change_list (section_of section) k v.list) v.rest mem' built)
        → AfterCode (searched_of section families) shape s place mem' built
    change-after {mem'} {built} f =
        subst (λ (x : Shape). AfterCode (searched_of section families) x s place mem' built) (sym e) (change_after' k s.words s.place s.rank s.trees as_change f)

  -- ---- an occurs: the last list is a phrase's

  module _ (k : Times) (ws : List ℕ) (p r : ℕ) where
    module _ (t : Tree) (ts : List Tree) (w : Waits section families mem (a_change (occurring k)) (state (t ∷ ts) ws p r) place rank lists) where
      over-phrase : is_phrase t ≡ true
      unfolding Every read change_last
      over-phrase = not-false (is_phrase t) w.over_phrases.0

      unfoldable last-finds : FindsTaken (occurs_list k) mem lists
      unfolding one-taken
      last-finds =
          let f = phrase_list_lem (searched_of section families) t over-phrase in
          record { taken = one-taken (occurring k) ws p r t ts w; finds = f.0; finds_are = f.1 }

      finds-after : {mem' : List ℕ} {built : Built} → ((v : FindsTaken (occurs_list k) mem lists) → Pushed (occurs_list k v.taken.list) v.taken.rest mem' built)
          → AfterCode (searched_of section families) (a_change (occurring k)) (state (t ∷ ts) ws p r) place mem' built
      unfolding last-finds one-taken read change_last top_tree place_of all_matches
      finds-after f = grown (change (occurring k) p t) ts w.place_is (f last-finds)

    occurs_taken' : (ts : List Tree) → Waits section families mem (a_change (occurring k)) (state ts ws p r) place rank lists → FindsTaken (occurs_list k) mem lists
    occurs_taken' [] w = absurd (omega (arith, (fit_of (a_change (occurring k)) 0 (length ws) w.here).finds))
    occurs_taken' (t ∷ ts) w = last-finds t ts w

    occurs_after' : {mem' : List ℕ} {built : Built} (ts : List Tree) → Waits section families mem (a_change (occurring k)) (state ts ws p r) place rank lists
        → ((v : FindsTaken (occurs_list k) mem lists) → Pushed (occurs_list k v.taken.list) v.taken.rest mem' built)
        → AfterCode (searched_of section families) (a_change (occurring k)) (state ts ws p r) place mem' built
    occurs_after' [] w f = absurd (omega (arith, (fit_of (a_change (occurring k)) 0 (length ws) w.here).finds))
    occurs_after' (t ∷ ts) w f = finds-after t ts w f

  module _ {shape : Shape} {s : State} (k : Times) (e : shape ≡ a_change (occurring k)) (w : Waits section families mem shape s place rank lists) where
    pub occurs-taken : FindsTaken (occurs_list k) mem lists
    occurs-taken = occurs_taken' k s.words s.place s.rank s.trees (as_change (occurring k) e w)

    pub occurs-after : {mem' : List ℕ} {built : Built} → ((v : FindsTaken (occurs_list k) mem lists) → Pushed (occurs_list k v.taken.list) v.taken.rest mem' built)
        → AfterCode (searched_of section families) shape s place mem' built
    occurs-after {mem'} {built} f =
        subst (λ (x : Shape). AfterCode (searched_of section families) x s place mem' built) (sym e)
        (occurs_after' k s.words s.place s.rank s.trees (as_change (occurring k) e w) f)

  -- ---- a_word

  -- nothing is built
  pub word_after : {shape : Shape} {s : State} {m n : ℕ} (v : ℕ) → shape ≡ a_word v → Waits section families mem shape s place rank lists
      → AfterCode (searched_of section families) shape s place mem (made m n)
  unfolding read first_too_long first
  word_after {shape} {s} {m} {n} v e w =
      let b : AfterCode (searched_of section families) (a_word v) s place mem (made m n) =
      record { long = λ t. absurd (let z : ◌≡◌ {A = ℕ} 0 1 = cc in omega arith); valid = λ i j q. refl; stack = λ i j q. w.stack } in
      subst (λ (x : Shape). AfterCode (searched_of section families) x s place mem (made m n)) (sym e) b
