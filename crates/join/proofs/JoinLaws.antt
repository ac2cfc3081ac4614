-- The join's numbers, gathered string by string: the least of the starts passed and the greatest of the ends passed stand for the strings passed.
use Prim.Native.Nat.{ℕ, ◌+◌, ◌-◌, ◌*◌, ◌<◌, ◌^◌, min, max}
use native.Mathlib.Omega.{arith}
use mathlib.Core.Bool.{Bool, false, ◌&&◌, and_comm, cond}
use mathlib.Core.List.{List, [], ◌∷◌}
use mathlib.Core.Path.{◌≡◌, refl, ap, ap₂, sym, subst, ◌∙◌}
use lib.ListN.{length, get_or}
use Rattle.std.specs.List.{fold}
use Rattle.model.specs.AllStrings.{AllStrs}
use Rattle.model.specs.Answers.{span_of, tag_of}
use Rattle.model.specs.Limits.{radix}
use Rattle.model.specs.Lists.{Every, all_of, any_of, from_to, up_from}
use Rattle.model.specs.Matches.{Str}
use Rattle.model.specs.Rules.{covered, least_start, greatest_end, join}
use Rattle.model.proofs.EveryLaws.{every_weaker}
use Rattle.model.proofs.RulesLaws.{greatest_end_bound, start-least_start}
use Rattle.strings.specs.Strings.{str_of, strs_of, strs_at}
use Rattle.strings.proofs.StringsLaws.{end-strs_at}
use Rattle.strings.specs.declared.packed.Packed.{Packed}
use Rattle.strings.specs.declared.positions.Run.{Run}
use Rattle.join.specs.Joined.{Extent, joined}

-- a string of which only the start and the end are read
abbrev pub from_to_lem : ℕ → ℕ → Str
from_to_lem a b = record { start = a; end = b; query = 0; contiguous = false }

-- ---- least_start

-- the least of a start and those of strings
abbrev pub least_from : ℕ → List Str → ℕ
least_from a ss = least_start (from_to_lem a 0) ss

-- it takes in the strings one by one
least_start-next : (a : ℕ) (t : Str) (ts : List Str) → least_from a (t ∷ ts) ≡ least_from (min a t.start) ts
unfolding least_start
least_start-next a t [] = refl
least_start-next a t (u ∷ us) = omega arith

-- begun with a string, it comes to the least start of that string and the others
least_start-from : (s : Str) (ss : List Str) → least_from s.start ss ≡ least_start s ss
unfolding least_start
least_start-from s [] = refl
least_start-from s (t ∷ ts) = refl

-- ---- greatest_end

-- the greatest of an end and those of strings
abbrev pub greatest_from : ℕ → List Str → ℕ
greatest_from a ss = greatest_end (from_to_lem 0 a) ss

-- it takes in the strings one by one
greatest_end-next : (a : ℕ) (t : Str) (ts : List Str) → greatest_from a (t ∷ ts) ≡ greatest_from (max a t.end) ts
unfolding greatest_end
greatest_end-next a t [] = refl
greatest_end-next a t (u ∷ us) = omega arith

-- begun with a string, it comes to the greatest end of that string and the others
greatest_end-from : (s : Str) (ss : List Str) → greatest_from s.end ss ≡ greatest_end s ss
unfolding greatest_end
greatest_end-from s [] = refl
greatest_end-from s (t ∷ ts) = refl

-- ---- the extent

-- a start and an end, with those of a string
abbrev pub spread : ℕ × ℕ → Str → ℕ × ℕ
spread p s = (min p.0 s.start, max p.1 s.end)

fold-spread : (a b : ℕ) (ss : List Str) → fold spread (a, b) ss ≡ (least_from a ss, greatest_from b ss)
unfolding least_start greatest_end
fold-spread a b [] = refl
fold-spread a b (s ∷ ss) = fold-spread (min a s.start) (max b s.end) ss ∙ sym (ap₂ (λ (x y : ℕ). (x, y)) (least_start-next a s ss) (greatest_end-next b s ss))

has-first : (s : Str) (ss : List Str) → s ∷ ss ≡ [] → ⊥
has-first s ss n = cc

-- gathered from the first string on
pub extent-spread : (s : Str) (ss : List Str) {all : List Str} {run : Run} → all ≡ s ∷ ss → (run.lo.0, run.hi.0) ≡ fold spread (s.start, s.end) ss → Extent all run
unfolding joined join
extent-spread s ss {all} {run} e f =
    let g : (run.lo.0, run.hi.0) ≡ (least_from s.start ss, greatest_from s.end ss) = f ∙ fold-spread s.start s.end ss in
    subst (λ ys. Extent ys run) (sym e) (record {
      some = has-first s ss;
      lo_value = ap (λ p. p.0) g ∙ least_start-from s ss;
      hi_value = ap (λ p. p.1) g ∙ greatest_end-from s ss;
    })

-- ---- joined

-- "contiguous if every position in it is covered and all were contiguous"; of no strings position 0 isn't covered
contiguous-joined : (ss : List Str)
    → (all_of (λ t. t.contiguous) ss && all_of (covered ss) (from_to (joined ss).start (joined ss).end)) ≡ (joined ss).contiguous
unfolding joined join all_of any_of from_to up_from
contiguous-joined [] = refl
contiguous-joined (s ∷ ss) = and_comm (all_of (λ t. t.contiguous) (s ∷ ss)) (all_of (covered (s ∷ ss)) (from_to (joined (s ∷ ss)).start (joined (s ∷ ss)).end))

-- its start and end are halves of numbers
pub start_bound : (l : List ℕ) → get_or l 0 0 < 2 ^ 32 → (joined (strs_at l)).start < radix
unfolding strs_at joined join Every
start_bound [] h = omega arith
start_bound (x ∷ []) h = omega arith
start_bound (x ∷ y ∷ r) h = omega (arith, (start-least_start (str_of x y) (strs_at r)).0)

pub end_bound : (l : List ℕ) → (joined (strs_at l)).end < radix
unfolding joined join
end_bound l = at (strs_at l) (end-strs_at l)
  where
    at : (ss : List Str) → AllStrs (λ s. s.end < radix) ss → (joined ss).end < radix
    at [] a = omega arith
    at (s ∷ ss) a = omega (arith, greatest_end_bound (radix - 1) s ss (every_weaker _ _ (λ t h. omega arith) (s ∷ ss) a))

-- the join of strings, and its two numbers
pub join-some : (ss : List Str) → (length ss ≡ 0 → ⊥) → join ss ≡ joined ss ∷ []
unfolding joined join
join-some [] h = absurd (h refl)
join-some (s ∷ ss) h = refl

pub strs_of-join : (ss : List Str) → (length ss ≡ 0 → ⊥) → strs_of 0 (join ss) ≡ span_of (joined ss) ∷ tag_of 0 (joined ss) ∷ []
unfolding strs_of
strs_of-join ss h = ap (strs_of 0) (join-some ss h)

first-query : (s : Str) (ss : List Str) → (joined (s ∷ ss)).query ≡ s.query
unfolding joined join
first-query s ss = refl

-- the numbers of the join, from those of its positions and of the first string
pub join-numbers : (s : Str) (rest : List Str) (ss : List Str) (run : Run) (contiguous : Bool) (p : Packed) → Extent ss run → ss ≡ s ∷ rest
    → contiguous ≡ (all_of (λ t. t.contiguous) ss && all_of (covered ss) (from_to run.lo.0 run.hi.0)) → p.span ≡ run.lo.0 * radix + run.hi.0
    → p.tag ≡ s.query * 4 + cond contiguous 2 0 + 0 → strs_of 0 (join ss) ≡ p.span ∷ p.tag ∷ []
join-numbers s rest ss run contiguous p x e c f g =
    let mark : contiguous ≡ (joined ss).contiguous = c ∙ rw (x.lo_value, x.hi_value) (contiguous-joined ss) in
    let query : (joined ss).query ≡ s.query = rw e (first-query s rest) in
    strs_of-join ss (λ n. absurd (omega (arith, rw e at n))) ∙ ap₂ (λ (a b : ℕ). a ∷ b ∷ []) (sym (rw (← x.lo_value, ← x.hi_value) f)) (sym (rw (query, ← mark) g))
