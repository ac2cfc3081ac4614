-- The words that wait are the operands just before the next code: a word's code adds its own, and after every other code none waits. So those of a
-- phrase are a part of the selection.
use Prim.Native.Nat.{ℕ, zero, suc, ◌+◌, ◌-◌, ◌/◌, ◌%◌, ◌≤◌, ◌<◌}
use native.Mathlib.Omega.{arith}
use mathlib.Core.Path.{◌≡◌, refl, sym, ap, ap₂, ◌∙◌, subst}
use mathlib.Core.Bool.{Bool, true, false, ◌&&◌, cond}
use mathlib.Core.List.{List, [], ◌∷◌, ◌++◌}
use lib.Dec.{leb, ltb}
use lib.ListN.{length, take, drop, get_or, length-append, length-take}
use lib.Seq.{drop-cons}
use borrow.Author.Tests.{leb-true}
use Rattle.model.specs.declared.Code.TheVariants.{Phrase, Filter as Filtered, Occurs}
use Rattle.model.specs.declared.Filter.TheVariants.{Window}
use Rattle.model.specs.declared.Times.TheVariants.{FromTo}
use Rattle.model.specs.Accepted.{AcceptedSelection}
use Rattle.model.specs.Checks.{operand_fits, filter_operand_fits, times_operand_fits}
use Rattle.model.specs.Kinds.{Shape, a_word, a_phrase, a_pair, a_change, is_word, shape_at}
use Rattle.model.specs.Limits.{max_waiting, max_window, max_distance, radix}
use Rattle.model.specs.Parts.{state_at}
use Rattle.model.specs.Section.{size}
use Rattle.model.specs.Selection.{code_at, kind_at, operand_at, kind_of, operand_of, code_of}
use Rattle.model.specs.Trees.{State, read}
use Rattle.model.specs.Waiting.{fits}
use Rattle.model.proofs.BuildLaws.{Fits}
use Rattle.model.proofs.KindsLaws.{word_shape}
use Rattle.model.proofs.SelectionLaws.{kind_code, operand_code}
use Rattle.model.proofs.TestsLaws.{both_true}
use Rattle.model.proofs.WaitingLaws.{step}
use Rattle.selection.specs.Phrases.{phrase_words}
use Rattle.selection.proofs.PhrasesLaws.{the_words}
use Rattle.store.specs.Layout.{Holds}
use Rattle.store.proofs.MemoryLaws.{holds-both, holds-part}
use Rattle.window.specs.Inside.{WindowSize}

-- the words before the place c are the operands of the codes just before it
pub record Loose (sel : List ℕ) (c : ℕ) (ws : List ℕ) : Type 0 where
  pub from : ℕ
  pub ends : from + length ws ≡ size sel + c
  pub above : size sel < from
  pub held : Holds sel from ws

module _ (sel : List ℕ) (a : AcceptedSelection sel) (c : ℕ) (from_one : 1 ≤ c) (up_to : c ≤ size sel) where
  operand_at_lem : operand_of (code_at sel c) ≡ operand_at sel c
  operand_at_lem = operand_code (kind_at sel c) (operand_at sel c) (a.known c from_one up_to) (a.operands c from_one up_to)

  pub window-size : (n : ℕ) → code_at sel c ≡ Filtered (Window n) → WindowSize n
  unfolding operand_fits filter_operand_fits
  window-size n e =
      let k : 7 ≡ kind_at sel c = ap kind_of (sym e) ∙ kind_code (kind_at sel c) (operand_at sel c) (a.known c from_one up_to) in
      let o : n ≡ operand_at sel c = ap operand_of (sym e) ∙ operand_at_lem in
      let f : operand_fits 7 n ≡ true = ap₂ operand_fits k o ∙ a.operands c from_one up_to in
      let b = both_true (leb 1 n) (leb n max_window) f in
      record { from_one = leb-true 1 n b.0; up_to = leb-true n max_window b.1 }

  pub times_rise : (least most : ℕ) → code_at sel c ≡ Occurs (FromTo least most) → least ≤ most
  unfolding operand_fits times_operand_fits
  times_rise least most e =
      let o = operand_at sel c in
      let k : 16 ≡ kind_at sel c = ap kind_of (sym e) ∙ kind_code (kind_at sel c) o (a.known c from_one up_to) in
      let same : Occurs (FromTo (o / radix) (o % radix)) ≡ Occurs (FromTo least most) = ap (λ (n : ℕ). code_of n o) k ∙ e in
      let l : o / radix ≡ least = cc in
      let m : o % radix ≡ most = cc in
      let f : operand_fits 16 o ≡ true = ap (λ (n : ℕ). operand_fits n o) k ∙ a.operands c from_one up_to in
      let up = leb-true (o / radix) (o % radix) (both_true (leb (o / radix) (o % radix)) (leb (o % radix) max_distance) f).0 in
      omega (arith, up, l, m)

  -- a phrase has no more words than its operand says, which fits
  pub phrase-short : (k : ℕ) → code_at sel c ≡ Phrase k → length (phrase_words sel c) ≤ max_waiting
  unfolding operand_fits phrase_words
  phrase-short k e =
      let o = operand_at sel c in
      let one : 1 ≡ kind_at sel c = ap kind_of (sym e) ∙ kind_code (kind_at sel c) o (a.known c from_one up_to) in
      let f : operand_fits 1 o ≡ true = ap (λ (n : ℕ). operand_fits n o) one ∙ a.operands c from_one up_to in
      let few = leb-true o max_waiting (both_true (leb 1 o) (leb o max_waiting) f).1 in
      at (ltb o c && leb (size sel + c) (length sel)) few
    where
      at : (b : Bool) → operand_at sel c ≤ max_waiting → length (cond b (take (operand_at sel c) (drop (size sel + c - operand_at sel c) sel)) []) ≤ max_waiting
      at true h = simp length-take (omega arith)
      at false h = omega arith

  pub phrase_words_lem : (k : ℕ) (ws : List ℕ) → code_at sel c ≡ Phrase k → length ws ≡ k → Loose sel c ws → phrase_words sel c ≡ ws
  phrase_words_lem k ws e l w =
      let o : k ≡ operand_at sel c = ap operand_of (sym e) ∙ operand_at_lem in
      let m = size sel in
      let i : m + c - k ≡ w.from = omega (arith, w.ends) in
      let n : m + c - w.from ≡ length ws = omega (arith, w.ends) in
      sym (the_words sel c k m o (omega (arith, w.ends, w.above)) refl (omega (arith, a.sized)))
      ∙ ap (λ (j : ℕ). take (m + c - j) (drop j sel)) i ∙ holds-part (m + c - w.from) n w.held

  -- ---- a code read

  none-word-after : (ws : List ℕ) → length ws ≡ 0 → Loose sel (c + 1) ws
  none-word-after [] e =
      record { from = size sel + (c + 1); ends = omega arith; above = omega arith; held = record { within = omega (arith, a.sized); part = refl } }
  none-word-after (w ∷ ws) e = absurd (omega arith)

  pub one-word-after : (v : ℕ) (ws : List ℕ) → shape_at sel c ≡ a_word v → Loose sel c ws → Loose sel (c + 1) (ws ++ v ∷ [])
  one-word-after v ws e w =
      let i : w.from + length ws ≡ size sel + c = w.ends in
      let o : get_or sel (w.from + length ws) 0 ≡ v = ap (λ (j : ℕ). get_or sel j 0) i ∙ sym operand_at_lem ∙ ap operand_of (word_shape (code_at sel c) v e) in
      let h : w.from + length ws < length sel = omega (arith, a.sized) in
      let one : Holds sel (w.from + length ws) (v ∷ []) =
      record { within = omega arith; part = ap (take 1) (drop-cons sel (w.from + length ws) 0 h) ∙ ap (λ (x : ℕ). x ∷ []) o } in
      record {
        from = w.from;
        ends = omega (arith, length-append ws (v ∷ []));
        above = w.above;
        held = holds-both ws (v ∷ []) w.held one;
      }

  -- after a code other than a word none waits
  loose_none : (x : Shape) (s : State) → is_word x ≡ false → fits x (length s.trees) (length s.words) ≡ true → Loose sel (c + 1) (read x s).words
  loose_none x s h f = none-word-after (read x s).words ((step x s.trees s.words s.place s.rank f).loose ∙ rw h)

  loose_read : (x : Shape) (s : State) → shape_at sel c ≡ x → fits x (length s.trees) (length s.words) ≡ true → Loose sel c s.words
      → Loose sel (c + 1) (read x s).words
  unfolding read
  loose_read (a_word v) s e f w = one-word-after v s.words e w
  loose_read (a_phrase k) s e f w = loose_none (a_phrase k) s refl f
  loose_read (a_pair k) s e f w = loose_none (a_pair k) s refl f
  loose_read (a_change k) s e f w = loose_none (a_change k) s refl f

module _ (sel : List ℕ) (a : AcceptedSelection sel) (lo rank : ℕ) where
  pub loose_state : (n : ℕ) → lo + n ≤ size sel → ((i : ℕ) → i < n → Fits (shape_at sel (lo + suc i)) (state_at (shape_at sel) lo rank i))
      → Loose sel (lo + suc n) (state_at (shape_at sel) lo rank n).words
  unfolding state_at
  loose_state zero h f = record { from = size sel + (lo + 1); ends = omega arith; above = omega arith; held = record { within = omega (arith, a.sized); part = refl } }
  loose_state (suc n) h f =
      let before = loose_state n (omega arith) (λ i l. f i (omega arith)) in
      let s = state_at (shape_at sel) lo rank n in
      let next : lo + suc n + 1 ≡ lo + suc (suc n) = omega arith in
      subst (λ (c : ℕ). Loose sel c (read (shape_at sel (lo + suc n)) s).words) next
      (loose_read sel a (lo + suc n) (omega arith) (omega arith) (shape_at sel (lo + suc n)) s refl (f n (omega arith)).here before)
