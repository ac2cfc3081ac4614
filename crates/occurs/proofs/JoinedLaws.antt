-- A choice joined with a match of the not: its includes, the excludes after them, and the header by where both end.
use Prim.Native.Nat.{ℕ, ◌+◌, ◌*◌, ◌≤◌, ◌<◌}
use native.Mathlib.Omega.{arith}
use mathlib.Core.Path.{◌≡◌, subst}
use mathlib.Core.List.{List}
use lib.ListN.{length, set}
use Rattle.model.specs.Matches.{Match}
use Rattle.strings.specs.Strings.{strs_of}
use Rattle.store.specs.Indices.{ClosingMatch}
use Rattle.store.specs.Layout.{header_between, match_numbers}
use Rattle.store.specs.Put.{Put}
use Rattle.store.proofs.LayoutLaws.{length-strs_of, length_match}
use Rattle.store.proofs.PutLaws.{length-put, closing_match, closed_match}
use Rattle.occurs.specs.Binomial.{chosen}
use Rattle.occurs.specs.WithNot.{match_of, not_strings, not_excludes}
use Rattle.occurs.specs.Writing.{IncludesAt, ExcludesAt, JoinedAt}
use Rattle.occurs.proofs.BinomialLaws.{length-chosen}
use Rattle.occurs.proofs.FindsLaws.{finds-few, source-below}
use Rattle.occurs.proofs.WithNotLaws.{not_strings-few, length-not_excludes}

module _ {mem : List ℕ} {src k total c excess d at : ℕ} (w : JoinedAt mem src k total c excess d at) where
  made : Match
  made = match_of (chosen k w.finds c) (not_excludes excess w.finds d)

  includes-length : length (chosen k w.finds c) ≡ k
  includes-length = length-chosen k w.finds c (subst (λ n. c < n) w.size.total_is w.choice)

  excludes-length : length (not_excludes excess w.finds d) ≡ not_strings excess (length w.finds)
  excludes-length = length-not_excludes excess w.finds d w.in_range

  room : at + 1 + 2 * k + 2 * not_strings excess (length w.finds) ≤ length mem
  unfolding made
  room = omega (arith, w.room, length_match made, includes-length, excludes-length)

  pub includes-at : IncludesAt mem src k total c (at + 1)
  includes-at =
      record {
        finds = w.finds;
        source = record { slot = w.source.slot; below = omega (arith, w.source.below) };
        size = w.size;
        in_range = w.choice;
        room = omega (arith, room);
      }

  module _ {E : List ℕ} {b : ℕ} (v : (i : IncludesAt mem src k total c (at + 1)) → Put mem E (at + 1) (strs_of 0 (chosen k i.finds c)) b) where
    includes-put : Put mem E (at + 1) (strs_of 0 (chosen k w.finds c)) b
    unfolding includes-at
    includes-put = v includes-at

    pub excludes-at : ExcludesAt E src excess d b
    excludes-at =
        record {
          finds = w.finds;
          source = source-below w.source (omega arith) includes-put;
          too_many = w.too_many;
          in_range = w.in_range;
          room = omega (arith, room, includes-put.next_is, length-strs_of 0 (chosen k w.finds c), includes-length, length-put includes-put);
        }

    module _ {F : List ℕ} {e : ℕ} (u : (x : ExcludesAt E src excess d b) → Put E F b (strs_of 1 (not_excludes excess x.finds d)) e) where
      excludes-put : Put E F b (strs_of 1 (not_excludes excess w.finds d)) e
      unfolding excludes-at
      excludes-put = u excludes-at

      -- the counts of both fit in a header
      pub ends : ClosingMatch (length F) at b e
      unfolding made
      ends =
          closing_match at made includes-put excludes-put
          (omega (
            arith,
            includes-length,
            w.size.small,
            excludes-length,
            not_strings-few excess (length w.finds),
            finds-few w.finds w.source.slot,
          ))
          (omega (arith, room))

      pub whole : {exit : List ℕ} → exit ≡ set F at (header_between at b e)
          → Put mem exit at (match_numbers (match_of (chosen k w.finds c) (not_excludes excess w.finds d))) e
      unfolding made
      whole h = closed_match at made includes-put excludes-put h
