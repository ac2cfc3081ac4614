-- A string is valid where its span lies within the section and its query position is among the ranks. So every string of a complete AllMatches is valid.
use Prim.Native.Nat.{ℕ, ◌≤◌}
use native.Mathlib.Omega.{arith}
use mathlib.Core.List.{List, [], ◌∷◌}
use Rattle.model.specs.AllMatches.{all_matches}
use Rattle.model.specs.AllStrings.{AllStrs, AllList, Within, Ranked, RanksUpTo}
use Rattle.model.specs.Limits.{max_tokens}
use Rattle.model.specs.Matches.{Str, Match}
use Rattle.model.specs.Families.{Searched}
use Rattle.model.specs.Trees.{Tree}
use Rattle.model.proofs.AllStringsLaws.{within_matches, ranked_matches}
use Rattle.model.specs.Accepted.{max_phrases}
use Rattle.model.specs.Lists.{Every}
use Rattle.store.specs.ValidStr.{ValidStr}

-- what follows from two facts, of every element that has both
every-both : {A : Type 0} (P Q R : A → Type 0) → ((x : A) → P x → Q x → R x) → (xs : List A) → Every P xs → Every Q xs → Every R xs
unfolding Every
every-both P Q R h [] a b = tt
every-both P Q R h (x ∷ xs) a b = (h x a.0 b.0, every-both P Q R h xs a.1 b.1)

module _ (n : ℕ) (short : n ≤ max_tokens) where
  pub valid-str : (s : Str) → Within n s → Ranked max_phrases s → ValidStr s
  valid-str s w r = omega arith

  valid-strs : (ss : List Str) → AllStrs (Within n) ss → AllStrs (Ranked max_phrases) ss → AllStrs ValidStr ss
  valid-strs ss w r = every-both _ _ _ valid-str ss w r

  pub valid-list : (ms : List Match) → AllList (Within n) ms → AllList (Ranked max_phrases) ms → AllList ValidStr ms
  valid-list ms w r =
      every-both _ _ _
      (λ m a b. record { includes = valid-strs _ a.includes b.includes; excludes = valid-strs _ a.excludes b.excludes })
      ms w r

pub valid_matches : (s : Searched) (t : Tree) → s.section.tokens ≤ max_tokens → RanksUpTo max_phrases t → AllList ValidStr (all_matches s t)
valid_matches s t h r = valid-list s.section.tokens h (all_matches s t) (within_matches s max_phrases t r) (ranked_matches s max_phrases t r)
