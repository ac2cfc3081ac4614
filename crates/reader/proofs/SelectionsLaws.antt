-- Codes as a selection.
use Rattle.std.proofs.Common.{◌≡◌, ℕ, ◌+◌, ◌-◌, ◌*◌, ◌≤◌, List, ◌∷◌, ◌++◌, append_assoc, map, take, length, set, replicate, leb, Bool, true, false, sym, ap, ◌∙◌, refl, arith, Ok, Err}
use Rattle.std.proofs.lemmas.List.{drop-drop, length-map}
use borrow.Author.Tests.{leb-true, le-leb}
use borrow.Rule.Slice.PartMut.{put_mid}
use lib.ListN.{length-replicate, length-set}
use lib.Seq.{sets, sets-eq, length-sets}
use Rattle.model.specs.declared.Code.{Code}
use Rattle.model.specs.declared.Refusal.{Refusal}
use Rattle.model.specs.Limits.{max_codes}
use Rattle.model.specs.Selection.{kind_of, operand_of}
use Rattle.model.specs.TextAnswer.{TextAnswer, codes, error}
use Rattle.model.specs.Typed.{Reading, selection_of}
use Rattle.model.proofs.SetsLaws.{sets-append, take-written}
use Rattle.lent_text.specs.declared.codes.Codes.{Codes}
use Rattle.lent_text.specs.Written.{Written, no_codes}
use Rattle.reader.specs.Selections.{put_down, reading_of, typed_numbers}

-- ---- what is put down of codes

-- a part of a list that is replaced by a list of its length
part-put : (s word part : List ℕ) (at end : ℕ) → at + length word ≤ length s → end ≡ at + length word → part ≡ word → put_mid at (end - at) s part ≡ sets s at word
part-put s word part at end h e same =
    let k : end - at ≡ length word = omega arith in
    rw (same, k, sets-eq word s at h, append_assoc, drop-drop) refl

pub few_put : (c : Codes) (s ks os : List ℕ) → c.count ≤ max_codes → 129 ≤ length s → ks ≡ take c.count c.kinds → os ≡ take c.count c.operands → length ks ≡ c.count → length os ≡ c.count
    → put_mid (1 + c.count) (1 + 2 * c.count - (1 + c.count)) (put_mid 1 (1 + c.count - 1) (set s 0 c.count) ks) os ≡ sets s 0 (put_down c)
few_put c s ks os few room e f l k =
    let m = c.count in
    let first : put_mid 1 (1 + m - 1) (set s 0 m) ks ≡ sets (set s 0 m) 1 ks = part-put (set s 0 m) ks ks 1 (1 + m) (omega (arith, length-set s 0 m)) (omega arith) refl in
    let long : length (sets (set s 0 m) 1 ks) ≡ length s = length-sets (set s 0 m) 1 ks ∙ length-set s 0 m in
    let second : put_mid (1 + m) (1 + 2 * m - (1 + m)) (sets (set s 0 m) 1 ks) os ≡ sets (sets (set s 0 m) 1 ks) (1 + m) os
    = part-put (sets (set s 0 m) 1 ks) os os (1 + m) (1 + 2 * m) (omega (arith, long)) (omega arith) refl in
    let down : put_down c ≡ m ∷ (ks ++ os) = rw (le-leb m max_codes few, e, f) refl in
    ap (λ r. put_mid (1 + m) (1 + 2 * m - (1 + m)) r os) first ∙ second ∙ ap (λ n. sets (sets (set s 0 m) 1 ks) n os) (ap (λ n. 1 + n) (sym l))
    ∙ sym (sets-append (set s 0 m) 1 ks os) ∙ ap (sets s 0) (sym down)

-- ---- the reader's answer, and what is put down for it

pub reading_refused : (a : TextAnswer) {r : Refusal} {reading : Reading} → reading ≡ reading_of a → reading ≡ Err r → a ≡ error r
reading_refused (codes cs) e f = let z : ◌≡◌ {A = ℕ} 0 1 = cc in absurd (omega arith)
reading_refused (error s) {r} e f = let same : s ≡ r = cc in ap error same

pub reading_read : (a : TextAnswer) {m : ℕ} {reading : Reading} → reading ≡ reading_of a → reading ≡ Ok m → (cs : List Code) × (a ≡ codes cs) × (m ≡ length cs)
reading_read (codes cs) {m} e f = let same : m ≡ length cs = cc in (cs, refl, same)
reading_read (error s) e f = let z : ◌≡◌ {A = ℕ} 0 1 = cc in absurd (omega arith)

-- the codes of a text, as they stand in the arrays
column : (f : Code → ℕ) (cs : List Code) (l : List ℕ) → l ≡ sets (replicate max_codes 0) 0 (map f cs) → length cs ≤ max_codes → take (length cs) l ≡ map f cs
column f cs l e h =
    take-written (replicate max_codes 0) (map f cs) (length cs) e (sym (length-map cs f))
    (omega (arith, ap length e, length-sets (replicate max_codes 0) 0 (map f cs), length-replicate {A = ℕ} max_codes 0))

pub written-down : (cs : List Code) (c : Codes) → Written cs no_codes c → put_down c ≡ typed_numbers (codes cs)
unfolding selection_of
written-down cs c w = at (leb (length cs) max_codes) refl (omega (arith, w.counted)) where
  at : (b : Bool) → leb (length cs) max_codes ≡ b → c.count ≡ length cs → put_down c ≡ typed_numbers (codes cs)
  at true h n =
      let few : length cs ≤ max_codes = leb-true _ _ h in
      let ks = column kind_of cs c.kinds (w.kinds (omega (arith, w.counted))) few in
      let os = column operand_of cs c.operands (w.operands (omega (arith, w.counted))) few in
      rw (n, h, ks, os) refl
  at false h n = rw (n, h) refl
