-- What a chain over the strings of a slice returns: what the definitions say of these strings.
use mathlib.Core.Bool.{Bool, true, false, ◌&&◌, ◌||◌}
use mathlib.Core.List.{List, [], ◌∷◌}
use mathlib.Core.Path.{◌≡◌, refl, ap, sym, ◌∙◌}
use denote.Param.Members.{Mut}
use Rattle.std.proofs.lemmas.Iterator.{YieldsList}
use Rattle.std.proofs.lemmas.List.Sums.{fold-append}
use Rattle.std.proofs.lemmas.Fn.{fold_over}
use Rattle.std.proofs.lemmas.Iterator.Consumers.{YieldsList-from_first}
use Rattle.std.proofs.lemmas.Iterator.Search.{all_from_yields_List, any_from_yields_List}
use Rattle.std.specs.Fn.{Called}
use Rattle.std.specs.Iterator.{Drains, YieldsFirstBy, YieldsThen}
use Rattle.std.specs.List.{FoldsTo, fold, list_all, list_any}
use Rattle.std.specs.Prelude.{Option}
use Rattle.std.specs.Option.{MatchOption}
use Rattle.model.specs.Lists.{all_of, any_of}
use Rattle.model.specs.Matches.{Str}
use Rattle.strings.specs.Strings.{str_packed}
use Rattle.strings.specs.declared.packed.Packed.{Packed}

-- ---- the library's all and any are the definitions'

module _ {A : Type 0} (f : A → Bool) where
  pub list_all-all_of : (xs : List A) → list_all f xs ≡ all_of f xs
  unfolding all_of
  list_all-all_of [] = refl
  list_all-all_of (x ∷ xs) = ap (λ b. f x && b) (list_all-all_of xs)

  pub list_any-any_of : (xs : List A) → list_any f xs ≡ any_of f xs
  unfolding any_of
  list_any-any_of [] = refl
  list_any-any_of (x ∷ xs) = ap (λ b. f x || b) (list_any-any_of xs)

-- ---- `strings_in`

-- what `next` gives of the strings that are left
abbrev pub next_str : List Str → Option Packed → List Str → Type 0
next_str = YieldsFirstBy str_packed (λ ss. ss)

-- it yields the strings of its slice
pub yields_strs : {s ss : List Str} → s ≡ ss → YieldsList next_str str_packed s ss
yields_strs {ss} e = YieldsList-from_first str_packed (λ ss. ss) ss e

-- ---- what runs over it: the call's clause `ran`, what `strings_in` ensures, and what the closure computes of each string

module _ {F : Type 0} {g : Mut F (Packed × Unit {0}) Bool} (test : Str → Bool) {s ss : List Str} (u : List Str) (f : F) (r : Bool) where
  pub all_of_strs : (xs : List Packed) × (o : Option Packed) × (j : F) × YieldsThen next_str s xs o u × FoldsTo (λ p x q. Called g p (x, tt) true q) f xs j × MatchOption o (r ≡ true) (λ x. (r ≡ false) × ((h : F) × Called g j (x, tt) false h)) → s ≡ ss → ((x : Packed) (b : Bool) (q : F) → Called g f (x, tt) b q → (q ≡ f) × (b ≡ test (str_packed x))) → r ≡ all_of test ss
  all_of_strs ran e k = all_from_yields_List test u f r ran (yields_strs e) k ∙ list_all-all_of test ss

  pub any_of_strs : (xs : List Packed) × (o : Option Packed) × (j : F) × YieldsThen next_str s xs o u × FoldsTo (λ p x q. Called g p (x, tt) false q) f xs j × MatchOption o (r ≡ false) (λ x. (r ≡ true) × ((h : F) × Called g j (x, tt) true h)) → s ≡ ss → ((x : Packed) (b : Bool) (q : F) → Called g f (x, tt) b q → (q ≡ f) × (b ≡ test (str_packed x))) → r ≡ any_of test ss
  any_of_strs ran e k = any_from_yields_List test u f r ran (yields_strs e) k ∙ list_any-any_of test ss

-- v reads what the closure carries from string to string
module _ {C D F : Type 0} {g : Mut F (C × (Packed × Unit {0})) C} (v : C → D) (h : D → Str → D) {s ss : List Str} {f : F} (init r : C) where
  pub fold_strs : (xs : List Packed) × (q : F) × Drains next_str s xs × FoldsTo {P = F × C} (λ a x b. Called g a.0 (a.1, (x, tt)) b.1 b.0) (f, init) xs (q, r) → s ≡ ss → ((a : C) (x : Packed) (b : C) (q : F) → Called g f (a, (x, tt)) b q → (q ≡ f) × (v b ≡ h (v a) (str_packed x))) → v r ≡ fold h (v init) ss
  fold_strs ran e k =
      fold_over next_str str_packed g (λ seen a. v a ≡ fold h (v init) seen) f
      (λ seen a x b q j called. let d = k a x b q called in (d.1 ∙ ap (λ z. h z (str_packed x)) j ∙ sym (fold-append h (v init) seen (str_packed x ∷ [])), d.0))
      s ss init r (yields_strs e).runs refl ran
