-- The excludes of a match of the not: none, one find, or both finds and then one of them again, each written after the other. A find becomes an
-- exclude by its tag's last bit.
use Prim.Native.Nat.{ℕ, ◌+◌, ◌*◌, ◌/◌, ◌≤◌, ◌<◌}
use native.Mathlib.Omega.{arith}
use mathlib.Core.Path.{◌≡◌, refl, sym, ap, ap₂, ◌∙◌, subst}
use mathlib.Core.List.{List, [], ◌∷◌, ◌++◌}
use lib.ListN.{length, take, drop, get_or, length-take}
use Rattle.model.specs.Answers.{span_of, tag_of}
use Rattle.model.specs.Matches.{Str}
use Rattle.strings.specs.Strings.{strs_of}
use Rattle.strings.proofs.StringsLaws.{tag-turned}
use Rattle.store.specs.Put.{Put}
use Rattle.store.proofs.LayoutLaws.{strs_of-append, length-strs_of}
use Rattle.store.proofs.MemoryLaws.{get_d_head, holds_tail}
use Rattle.store.proofs.PutLaws.{put-none, put-append, length-put}
use Rattle.occurs.specs.WithNot.{not_matches, not_strings, not_excludes}
use Rattle.occurs.specs.Writing.{ExcludeAt, ExcludesAt}
use Rattle.occurs.proofs.FindsLaws.{FindAt, find_at, finds_hold, source-below}

-- ---- a find as an exclude

module _ {mem : List ℕ} {src d at : ℕ} (w : ExcludeAt mem src d at) where
  found : FindAt mem (src + 2) w.finds d
  found = find_at w.finds d (finds_hold w.finds w.source.slot) w.in_range

  pub within : src + 2 + 3 * d + 1 + 2 ≤ length mem
  within = found.string.within

  pub exclude-put : {exit : List ℕ} {span tag next : ℕ} → span ≡ get_or mem (src + 2 + 3 * d + 1) 0 → tag ≡ get_or mem (src + 2 + 3 * d + 1 + 1) 0 / 2 * 2 + 1
      → Put mem exit at (span ∷ tag ∷ []) next → Put mem exit at (strs_of 1 (take 1 (drop d w.finds))) next
  unfolding strs_of
  exclude-put {exit} {next = next} f e v =
      let s = found.first in
      let span : get_or mem (src + 2 + 3 * d + 1) 0 ≡ span_of s = get_d_head _ found.string in
      let tag : get_or mem (src + 2 + 3 * d + 1 + 1) 0 ≡ tag_of 0 s = get_d_head _ (holds_tail _ found.string) in
      rw found.is
      (subst (λ xs. Put mem exit at xs next) (ap₂ (λ x y. x ∷ y ∷ []) (f ∙ span) (e ∙ ap (λ t. t / 2 * 2 + 1) tag ∙ tag-turned 0 1 s (omega arith))) v)

-- ---- the excludes of a match of the not

both-finds : (ss : List Str) → length ss ≡ 2 → take 1 (drop 0 ss) ++ take 1 (drop 1 ss) ≡ ss
both-finds [] h = absurd (omega arith)
both-finds (s ∷ []) h = absurd (omega arith)
both-finds (s ∷ t ∷ []) h = refl
both-finds (s ∷ t ∷ u ∷ ss) h = absurd (omega arith)

module _ {mem : List ℕ} {src excess d at : ℕ} (w : ExcludesAt mem src excess d at) where
  pub no_exclude : excess ≡ 0 → Put mem mem at (strs_of 1 (not_excludes excess w.finds d)) at
  unfolding not_excludes strs_of
  no_exclude e = rw e (put-none mem at)

  module _ (e : excess ≡ 1) where
    pub single : ExcludeAt mem src d at
    single =
        record {
          finds = w.finds;
          source = w.source;
          in_range = subst (λ x. d < not_matches x (length w.finds)) e w.in_range;
          room = subst (λ x. at + 2 * not_strings x (length w.finds) ≤ length mem) e w.room;
        }

    pub one-exclude : {mem' : List ℕ} {next : ℕ} → ((x : ExcludeAt mem src d at) → Put mem mem' at (strs_of 1 (take 1 (drop d x.finds))) next)
        → Put mem mem' at (strs_of 1 (not_excludes excess w.finds d)) next
    unfolding single not_excludes
    one-exclude v = rw e (v single)

  -- three excludes, one by one
  module _ (no_none : excess ≡ 0 → ⊥) (no_one : excess ≡ 1 → ⊥) where
    two-finds : length w.finds ≡ 2
    two-finds = w.too_many.two (omega (arith, no_none, no_one))

    e : excess ≡ 2
    e = omega (arith, w.too_many.up_to, two-finds, no_none, no_one)

    room : at + 6 ≤ length mem
    room = let h = subst (λ x. at + 2 * not_strings x (length w.finds) ≤ length mem) e w.room in omega (arith, two-finds)

    length-one : (j : ℕ) → length (strs_of 1 (take 1 (drop j w.finds))) ≤ 2
    length-one j = omega (arith, length-strs_of 1 (take 1 (drop j w.finds)), length-take 1 (drop j w.finds))

    pub first : ExcludeAt mem src 0 at
    first = record { finds = w.finds; source = w.source; in_range = omega (arith, two-finds); room = omega (arith, room) }

    module _ {E : List ℕ} {p : ℕ} (v : (x : ExcludeAt mem src 0 at) → Put mem E at (strs_of 1 (take 1 (drop 0 x.finds))) p) where
      first-put : Put mem E at (strs_of 1 (take 1 (drop 0 w.finds))) p
      unfolding first
      first-put = v first

      room-left : p + 4 ≤ length E
      room-left = omega (arith, room, length-put first-put, first-put.next_is, length-one 0)

      pub second : ExcludeAt E src 1 p
      second =
          record {
            finds = w.finds;
            source = source-below w.source (omega arith) first-put;
            in_range = omega (arith, two-finds);
            room = omega (arith, room-left);
          }

      module _ {F : List ℕ} {q : ℕ} (u : (x : ExcludeAt E src 1 p) → Put E F p (strs_of 1 (take 1 (drop 1 x.finds))) q) where
        second-put : Put E F p (strs_of 1 (take 1 (drop 1 w.finds))) q
        unfolding second
        second-put = u second

        pub third : ExcludeAt F src d q
        third =
            record {
              finds = w.finds;
              source = source-below (source-below w.source (omega arith) first-put) (omega arith) second-put;
              in_range = subst (λ x. d < not_matches x (length w.finds)) e w.in_range;
              room = omega (arith, room-left, length-put second-put, second-put.next_is, length-one 1);
            }

        pub three_excludes : {G : List ℕ} {next : ℕ} → ((x : ExcludeAt F src d q) → Put F G q (strs_of 1 (take 1 (drop d x.finds))) next)
            → Put mem G at (strs_of 1 (not_excludes excess w.finds d)) next
        unfolding third not_excludes
        three_excludes {G} {next} t =
            let ss = w.finds in
            let both : strs_of 1 (take 1 (drop 0 ss)) ++ strs_of 1 (take 1 (drop 1 ss)) ≡ strs_of 1 ss =
            sym (strs_of-append 1 (take 1 (drop 0 ss)) (take 1 (drop 1 ss))) ∙ ap (strs_of 1) (both-finds ss two-finds) in
            let all = ap (λ xs. xs ++ strs_of 1 (take 1 (drop d ss))) both ∙ sym (strs_of-append 1 ss (take 1 (drop d ss))) in
            rw e (subst (λ xs. Put mem G at xs next) all (put-append (put-append first-put second-put) (t third)))
