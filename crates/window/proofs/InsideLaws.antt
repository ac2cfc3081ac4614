-- The strings inside a window: tested by their two numbers, and copied one after the other, which comes to the numbers of those that are kept.
use Prim.Native.Nat.{ℕ, ◌+◌, ◌*◌, ◌≤◌, ◌<◌}
use native.Mathlib.Omega.{arith}
use mathlib.Core.Path.{◌≡◌, refl, sym, ap, ap₂, ◌∙◌, subst}
use mathlib.Core.Bool.{Bool, true, false, cond}
use mathlib.Core.List.{List, [], ◌∷◌, flat_map}
use lib.ListN.{length, get_or}
use Rattle.model.specs.AllStrings.{AllStrs}
use Rattle.model.specs.Answers.{span_of, tag_of}
use Rattle.model.specs.Lists.{Every, keep}
use Rattle.model.specs.Matches.{Str}
use Rattle.model.specs.Rules.{inside_window}
use Rattle.model.proofs.RulesLaws.{length_none}
use Rattle.strings.specs.Strings.{str_of, strs_of}
use Rattle.store.specs.ValidStr.{ValidStr}
use Rattle.store.specs.Layout.{Holds}
use Rattle.store.specs.Put.{Put}
use Rattle.store.proofs.DecodeLaws.{str_back}
use Rattle.store.proofs.LayoutLaws.{length-strs_of, strs_of-flat_map}
use Rattle.store.proofs.MemoryLaws.{get_d_head, holds_tail}
use Rattle.store.proofs.PutLaws.{put-none, holds-below}
use Rattle.store.proofs.RowsLaws.{Rows, rows_start, rows_room, rows_step, rows_finish, flat_map-keep}
use Rattle.strings.specs.declared.packed.Packed.{Packed}
use Rattle.window.specs.Inside.{ExcludesAt}

-- ---- copying

-- the numbers of one string, or none
abbrev row_of : ℕ → ℕ → Str → List ℕ
row_of n last s = cond (inside_window n last s) (span_of s ∷ tag_of 1 s ∷ []) []

rows_inside : (n last : ℕ) (ss : List Str) → flat_map (row_of n last) ss ≡ strs_of 1 (keep (inside_window n last) ss)
rows_inside n last ss = sym (strs_of-flat_map 1 (keep (inside_window n last) ss) ∙ flat_map-keep (λ s. span_of s ∷ tag_of 1 s ∷ []) (inside_window n last) ss)

-- at index i of the loop: the strings todo are left, up to e, and the numbers of those before them that are inside are written from q to next
pub record Copying (n last : ℕ) (list : List Str) (mem₀ : List ℕ) (e q : ℕ) (mem : List ℕ) (next i : ℕ) : Type 0 where
  pub todo : List Str
  pub holds : Holds mem i (strs_of 1 todo)
  pub valid : AllStrs ValidStr todo
  pub end_is : e ≡ i + 2 * length todo
  pub rows : Rows (row_of n last) list todo mem₀ mem q next

-- the string in hand
record Here (mem : List ℕ) (e i : ℕ) (todo : List Str) : Type 0 where
  pub first : Str
  pub rest : List Str
  pub is : todo ≡ first ∷ rest
  pub holds : Holds mem (i + 2) (strs_of 1 rest)
  pub valid : AllStrs ValidStr rest
  pub end_is : e ≡ i + 2 + 2 * length rest
  pub span : get_or mem i 0 ≡ span_of first
  pub tag : get_or mem (i + 1) 0 ≡ tag_of 1 first
  pub same : str_of (span_of first) (tag_of 1 first) ≡ first

here_of : (todo : List Str) {mem : List ℕ} {e i : ℕ} → Holds mem i (strs_of 1 todo) → AllStrs ValidStr todo → e ≡ i + 2 * length todo → i < e → Here mem e i todo
unfolding strs_of Every
here_of [] r f d h = absurd (omega arith)
here_of (s ∷ ss) {mem} {i = i} r f d h =
    let rest = holds_tail _ r in
    let two : Holds mem (i + 2) (strs_of 1 ss) = subst (λ k. Holds mem k (strs_of 1 ss)) (omega arith) (holds_tail _ rest) in
    record {
      first = s;
      rest = ss;
      is = refl;
      holds = two;
      valid = f.1;
      end_is = omega arith;
      span = get_d_head _ r;
      tag = get_d_head _ rest;
      same = str_back 1 s (omega arith) f.0;
    }

module _ {n last : ℕ} {mem : List ℕ} {a e q : ℕ} (w : ExcludesAt n last mem a e q) where
  pub copy_start : {i : ℕ} → i ≡ a → Copying n last w.list mem e q mem q i
  copy_start f =
      record {
        todo = w.list;
        holds = subst (λ k. Holds mem k (strs_of 1 w.list)) (sym f) w.holds;
        valid = w.valid;
        end_is = omega (arith, w.end_is);
        rows = rows_start;
      }

module _ {n last : ℕ} {mem₀ : List ℕ} {a e q : ℕ} (w : ExcludesAt n last mem₀ a e q) {mem : List ℕ} {next i : ℕ} (g : Copying n last w.list mem₀ e q mem next i) where
  module _ (h : i < e) where
    here : Here mem e i g.todo
    here = here_of g.todo g.holds g.valid g.end_is h

    module _ {string : Packed} (s : string.span ≡ get_or mem i 0) (t : string.tag ≡ get_or mem (i + 1) 0) {test : Bool} (u : test ≡ inside_window n last (str_of string.span 0)) where
      decided : inside_window n last here.first ≡ test
      decided = ap (inside_window n last) (sym here.same) ∙ ap (λ x. inside_window n last (str_of x 0)) (sym (s ∙ here.span)) ∙ sym u

      row_is : row_of n last here.first ≡ cond test (string.span ∷ string.tag ∷ []) []
      row_is = ap₂ (λ b xs. cond b xs []) decided (ap₂ (λ x y. x ∷ y ∷ []) (sym (s ∙ here.span)) (sym (t ∙ here.tag)))

      -- where it is inside there is room for it
      pub inside_room : test ≡ true → next + 2 ≤ length mem
      inside_room f =
          let all_of : q + length (flat_map (row_of n last) w.list) ≤ length mem₀ =
          omega (arith, w.room, ap length (rows_inside n last w.list), length-strs_of 1 (keep (inside_window n last) w.list)) in
          omega (arith, rows_room g.rows here.is all_of, ap length (row_is ∙ ap (λ b. cond b (string.span ∷ string.tag ∷ []) []) f))

      module _ {mem' : List ℕ} {next' i' : ℕ} (i_is : i' ≡ i + 2) where
        copy_row : Put mem mem' next (cond test (string.span ∷ string.tag ∷ []) []) next' → Copying n last w.list mem₀ e q mem' next' i'
        copy_row v =
            let below = holds-below v (omega (arith, here.end_is, length-strs_of 1 here.rest, w.below, g.rows.put.next_is)) here.holds in
            record {
              todo = here.rest;
              holds = subst (λ k. Holds mem' k (strs_of 1 here.rest)) (sym i_is) below;
              valid = here.valid;
              end_is = omega (arith, here.end_is);
              rows = rows_step g.rows here.is (subst (λ xs. Put mem mem' next xs next') (sym row_is) v);
            }

        pub copy_inside : test ≡ true → Put mem mem' next (string.span ∷ string.tag ∷ []) next' → Copying n last w.list mem₀ e q mem' next' i'
        copy_inside f v = copy_row (subst (λ b. Put mem mem' next (cond b (string.span ∷ string.tag ∷ []) []) next') (sym f) v)

        pub copy_outside : test ≡ false → mem' ≡ mem → next' ≡ next → Copying n last w.list mem₀ e q mem' next' i'
        copy_outside f m k =
            let none = subst (λ b. Put mem mem next (cond b (string.span ∷ string.tag ∷ []) []) next) (sym f) (put-none mem next) in
            let moved = subst (λ l. Put mem l next (cond test (string.span ∷ string.tag ∷ []) []) next) (sym m) none in
            copy_row (subst (λ x. Put mem mem' next (cond test (string.span ∷ string.tag ∷ []) []) x) (sym k) moved)

  pub copy_end : e ≤ i → Put mem₀ mem q (strs_of 1 (keep (inside_window n last) w.list)) next
  copy_end h = subst (λ xs. Put mem₀ mem q xs next) (rows_inside n last w.list) (rows_finish g.rows (length_none g.todo (omega (arith, g.end_is))))
