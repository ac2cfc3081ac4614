use native.Mathlib.Omega.{arith}
use Prim.Native.Nat.{ℕ}
use mathlib.Core.List.{List}
use mathlib.Core.Path.{◌≡◌, refl, sym, subst}
use Rattle.store.specs.Put.{Put}
use borrow.Author.Rules.{rules}
use Rattle.window.proofs.InsideLaws.{copy_start, inside_room, copy_inside, copy_outside, copy_end}
use Rattle.window.proofs.writing.Source.put_inside.Goals as goal
use Rattle.window.proofs.writing.Source.put_inside.Goals.{then-is_inside, else-is_inside}

pub loop-i-init : goal.loop-i-init
loop-i-init c = (refl, λ w. copy_start w (omega arith))

pub put_string-next-requires : goal.put_string-next-requires
put_string-next-requires c =
    inside_room c.requires (c.loop-i.invariant.1 c.requires) (omega (arith, c.loop-i-test.true, c.requires.end_is)) c.string_at-string.ensures.span_value c.string_at-string.ensures.tag_value
    c.is_inside.ensures c.if-is_inside.true

-- memory and the index by the names that the joined branches give them
moved : {E mem mem' : List ℕ} {q next next' : ℕ} {xs : List ℕ} → mem' ≡ mem → next' ≡ next → Put E mem q xs next → Put E mem' q xs next'
moved {E} {mem} {q = q} {next' = next'} {xs} m n v = subst (λ l. Put E l q xs next') (sym m) (subst (λ k. Put E mem q xs k) (sym n) v)

pub loop-i-preserved : goal.loop-i-preserved
loop-i-preserved c =
    let s = c.string_at-string.ensures in
    elim c.if-is_inside.branch [
      | then-is_inside b ↦ (
        search rules,
        λ w. copy_inside w (c.loop-i.invariant.1 w) (omega (arith, c.loop-i-test.true, w.end_is)) s.span_value s.tag_value c.is_inside.ensures (omega arith) b.if-is_inside.true
            (moved b.mem-is b.next-is b.put_string-next.ensures),
      )
      | else-is_inside b ↦ (
        search rules,
        λ w. copy_outside w (c.loop-i.invariant.1 w) (omega (arith, c.loop-i-test.true, w.end_is)) s.span_value s.tag_value c.is_inside.ensures (omega arith) b.if-is_inside.false b.mem-is b.next-is,
      )
    ]

pub returns : goal.returns
returns c w = copy_end w (c.loop-i.invariant.1 w) (omega (arith, c.loop-i-test.false, w.end_is))
