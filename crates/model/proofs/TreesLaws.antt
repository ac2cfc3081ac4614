-- Laws of trees: reading the codes of one tree puts just that tree on what waits, because its sides are read the same way before it. So a tree
-- that is read from its own codes comes back, and its parts are the trees that its codes end in turn.
use Prim.Native.Nat.{ℕ, suc, ◌+◌, ◌≤◌}
use native.Mathlib.Omega.{arith}
use mathlib.Core.Path.{◌≡◌, refl, sym, ap, ap₂, ◌∙◌}
use mathlib.Core.Bool.{true}
use mathlib.Core.List.{List, [], ◌∷◌, ◌++◌, map, append-nil}
use lib.Dec.{leb}
use lib.ListN.{length, length-append, length-map}
use lib.Seq.{append_snoc}
use borrow.Author.Tests.{leb-true}
use Rattle.model.specs.Kinds.{Shape, a_word, a_phrase, a_pair, a_change, is_word}
use Rattle.model.specs.declared.Pair.{Pair}
use Rattle.model.specs.Lists.{all_of}
use Rattle.model.specs.Trees.{Tree, phrase, pair, change, place_of, State, combine, change_last, read, read_all, parts}
use Rattle.model.specs.AllStrings.{EveryPhrase, RanksUpTo}
use Rattle.model.specs.Parts.{parts_ended, part_count, has_words, postfix, phrases, renumbered, state}
use Rattle.model.proofs.ListsLaws.{all_split}
use Rattle.model.proofs.TestsLaws.{both_true, cond-le}

-- ---- postfix

pub length-phrase : (c r : ℕ) (ws : List ℕ) → length (postfix (phrase c r ws)) ≡ length ws + 1
unfolding postfix
length-phrase c r ws = simp (length-append, length-map)

pub length-pair : (k : Pair) (c : ℕ) (t u : Tree) → length (postfix (pair k c t u)) ≡ length (postfix t) + length (postfix u) + 1
unfolding postfix
length-pair k c t u = simp length-append

-- ---- read, read_all

pub read_all-append : (xs ys : List Shape) (s : State) → read_all (xs ++ ys) s ≡ read_all ys (read_all xs s)
unfolding read_all
read_all-append [] ys s = refl
read_all-append (x ∷ xs) ys s = read_all-append xs ys (read x s)

pub read_all-snoc : (cs : List Shape) (c : Shape) (s : State) → read_all (cs ++ c ∷ []) s ≡ read c (read_all cs s)
unfolding read_all
read_all-snoc cs c s = read_all-append cs (c ∷ []) s

same-state : (ts : List Tree) (ws : List ℕ) {p q r s : ℕ} → p ≡ q → r ≡ s → state ts ws p r ≡ state ts ws q s
same-state ts ws e f = ap₂ (state ts ws) e f

read-words : (ws : List ℕ) (ts : List Tree) (vs : List ℕ) (p r : ℕ) → read_all (map a_word ws) (state ts vs p r) ≡ state ts (vs ++ ws) (p + length ws) r
unfolding read_all read
read-words [] ts vs p r = let e : p ≡ p + 0 = omega arith in ap₂ (λ (v : List ℕ) (q : ℕ). state ts v q r) (sym (append-nil vs)) e
read-words (w ∷ ws) ts vs p r =
    let e : p + 1 + length ws ≡ p + suc (length ws) = omega arith in
    read-words ws ts (vs ++ w ∷ []) (p + 1) r ∙ ap₂ (λ (v : List ℕ) (q : ℕ). state ts v q r) (append_snoc vs w ws) e

-- the codes of one tree put that tree, numbered where it stands, on what waits
pub read-part : (t : Tree) (ts : List Tree) (p r : ℕ)
    → read_all (postfix t) (state ts [] p r) ≡ state (renumbered p r t ∷ ts) [] (p + length (postfix t)) (r + phrases t)
unfolding postfix read renumbered phrases combine change_last
read-part (phrase c s ws) ts p r =
    read_all-snoc (map a_word ws) (a_phrase (length ws)) (state ts [] p r) ∙ ap (read (a_phrase (length ws))) (read-words ws ts [] p r)
    ∙ same-state _ [] (omega (arith, length-phrase c s ws)) refl
read-part (pair k c t u) ts p r =
    let s = state ts [] p r in
    let left = ap (read_all (postfix u)) (read-part t ts p r) in
    let sides = read_all-append (postfix t) (postfix u) s ∙ left ∙ read-part u (renumbered p r t ∷ ts) (p + length (postfix t)) (r + phrases t) in
    read_all-snoc (postfix t ++ postfix u) (a_pair k) s ∙ ap (read (a_pair k)) sides ∙ same-state _ [] (omega (arith, length-pair k c t u)) (omega arith)
read-part (change k c t) ts p r =
    read_all-snoc (postfix t) (a_change k) (state ts [] p r) ∙ ap (read (a_change k)) (read-part t ts p r)
    ∙ same-state _ [] (omega (arith, length-append (postfix t) (a_change k ∷ []))) refl

-- ---- renumbered

pub place-renumbered : (p r : ℕ) (t : Tree) → place_of (renumbered p r t) + 1 ≡ p + length (postfix t)
unfolding renumbered place_of postfix
place-renumbered p r (phrase c s ws) = omega (arith, length-phrase c s ws)
place-renumbered p r (pair k c t u) = omega (arith, length-pair k c t u)
place-renumbered p r (change k c t) = omega (arith, length-append (postfix t) (a_change k ∷ []))

-- a tree's own code is its last
pub place_of_lem : (p r : ℕ) (t : Tree) → renumbered p r t ≡ t → place_of t + 1 ≡ p + length (postfix t)
place_of_lem p r t e = ap (λ (u : Tree). place_of u + 1) (sym e) ∙ place-renumbered p r t

-- ---- ranks

-- a phrase whose code says that it has a word has one
some_word : (c r : ℕ) (ws : List ℕ) → all_of has_words (postfix (phrase c r ws)) ≡ true → 1 ≤ length ws
unfolding postfix all_of
some_word c r ws h = leb-true 1 (length ws) (both_true (leb 1 (length ws)) true (all_split has_words (map a_word ws) _ h).1).0

ranks-renumbered : (n p r : ℕ) (t : Tree) → 1 ≤ r → r + phrases t ≤ n + 1 → all_of has_words (postfix t) ≡ true → RanksUpTo n (renumbered p r t)
unfolding renumbered phrases EveryPhrase postfix
ranks-renumbered n p r (phrase c s ws) g h w = record { from_one = g; up_to = omega arith; has_word = some_word c s ws w }
ranks-renumbered n p r (pair k c t u) g h w =
    let a = all_split has_words (postfix t ++ postfix u) _ w in
    let b = all_split has_words (postfix t) (postfix u) a.0 in
    (ranks-renumbered n p r t g (omega arith) b.0, ranks-renumbered n (p + length (postfix t)) (r + phrases t) u (omega arith) (omega arith) b.1)
ranks-renumbered n p r (change k c t) g h w = ranks-renumbered n p r t g h (all_split has_words (postfix t) _ w).0

-- ranks run from the first phrase's on
pub ranks_to : (n p r : ℕ) (t : Tree) → renumbered p r t ≡ t → 1 ≤ r → r + phrases t ≤ n + 1 → all_of has_words (postfix t) ≡ true → RanksUpTo n t
ranks_to n p r t e g h w = rw e at (ranks-renumbered n p r t g h w)

-- ---- phrases

-- a phrase is its words and one code more
pub phrases-few : (t : Tree) → all_of has_words (postfix t) ≡ true → phrases t + phrases t ≤ length (postfix t)
unfolding postfix phrases all_of
phrases-few (phrase c r ws) h =
    omega (arith, length-phrase c r ws, some_word c r ws h)
phrases-few (pair k c t u) h =
    let a = all_split has_words (postfix t ++ postfix u) _ h in
    let b = all_split has_words (postfix t) (postfix u) a.0 in
    omega (arith, length-pair k c t u, phrases-few t b.0, phrases-few u b.1)
phrases-few (change k c t) h = omega (arith, length-append (postfix t) (a_change k ∷ []), phrases-few t (all_split has_words (postfix t) _ h).0)

-- ---- part_count

pub parts_ended-le : (c : Shape) → parts_ended c ≤ 1
parts_ended-le c = cond-le (is_word c) _ _ _ (omega arith) (omega arith)

pub part_count-le : (cs : List Shape) → part_count cs ≤ length cs
unfolding part_count
part_count-le [] = omega arith
part_count-le (c ∷ cs) = omega (arith, part_count-le cs, parts_ended-le c)

pub part_count-append : (xs ys : List Shape) → part_count (xs ++ ys) ≡ part_count xs + part_count ys
unfolding part_count
part_count-append [] ys = omega arith
part_count-append (x ∷ xs) ys = omega (arith, part_count-append xs ys)

part_count-words : (ws : List ℕ) → part_count (map a_word ws) ≡ 0
unfolding part_count
part_count-words [] = refl
part_count-words (w ∷ ws) = omega (arith, part_count-words ws)

-- ---- parts

-- a tree has a part for each of its codes but the words
pub length-parts : (t : Tree) → length (parts t) ≡ part_count (postfix t)
unfolding parts postfix part_count
length-parts (phrase c r ws) = omega (arith, part_count-append (map a_word ws) (a_phrase (length ws) ∷ []), part_count-words ws)
length-parts (pair k c t u) = simp (length-append, part_count-append) (omega (arith, length-parts t, length-parts u))
length-parts (change k c t) = simp (length-append, part_count-append) (omega (arith, length-parts t))
