-- The lists that wait: what is written above them leaves them, and a list written to the slot after them waits as the last. So to replace the last
-- list, or the last two by one, is to push onto the rest.
use Prim.Native.Nat.{ℕ, ◌+◌, ◌≤◌, ◌<◌}
use native.Mathlib.Omega.{arith}
use mathlib.Core.Path.{◌≡◌, refl, sym, ◌∙◌}
use mathlib.Core.List.{List, [], ◌∷◌}
use lib.ListN.{length}
use lib.Seq.{sets}
use Rattle.model.specs.AllStrings.{AllList}
use Rattle.model.specs.Limits.{max_waiting, work_length}
use Rattle.model.specs.Matches.{Match}
use Rattle.std.specs.Prelude.{Ok}
use Rattle.store.specs.declared.Size.{Size}
use Rattle.store.specs.Built.{Built, Small}
use Rattle.store.specs.ValidStr.{ValidStr}
use Rattle.store.specs.Layout.{slot_numbers, slot_size, slot_at, scratch}
use Rattle.store.specs.Outcome.{Outcome}
use Rattle.store.specs.Put.{Put}
use Rattle.store.specs.Slot.{SlotHolds}
use Rattle.store.specs.Stack.{Stack}
use Rattle.store.proofs.PutLaws.{holds-put, length-put}
use Rattle.store.proofs.LayoutLaws.{slot-fits}
use Rattle.store.proofs.SlotsLaws.{slot-holds, slot-below, answer_made, outcome-put}

-- the last list that waits, and those before it
module _ (mem : List ℕ) (ms : List Match) (lists : List (List Match)) (s : Stack mem (ms ∷ lists)) where
  pub stack-last : SlotHolds mem (slot_at (length lists)) ms
  unfolding Stack
  stack-last = s.0

  pub stack-rest : Stack mem lists
  unfolding Stack
  stack-rest = s.1

-- what is written above the lists that wait leaves them
pub stack-below : {mem mem' : List ℕ} {q next : ℕ} {xs : List ℕ} → Put mem mem' q xs next
    → (lists : List (List Match)) → slot_at (length lists) ≤ q → Stack mem lists → Stack mem' lists
unfolding Stack
stack-below v [] h s = tt
stack-below v (ms ∷ lists) h s = (slot-below v (omega arith) s.0, stack-below v lists (omega arith) s.1)

-- a list written to the slot after them waits as the last
pub stack_push : {mem mem' : List ℕ} {next : ℕ} (ms : List Match) (lists : List (List Match)) → Small ms → AllList ValidStr ms
    → slot_at (length lists) + slot_size ≤ length mem → Put mem mem' (slot_at (length lists)) (slot_numbers ms) next → Stack mem lists → Stack mem' (ms ∷ lists)
unfolding Stack
stack_push ms lists h f room v s =
    let held = holds-put v (omega (arith, slot-fits ms h, v.next_is)) in
    (slot-holds ms held h f, stack-below v lists (omega arith) s)

-- so does a list that a rule has built in the slot for that, once it is copied down
pub stack_built : {mem mem' mem'' : List ℕ} {size : Size} {built : Built} (ms : List Match) (lists : List (List Match)) → length lists < max_waiting → work_length ≤ length mem
    → AllList ValidStr ms → Outcome ms mem mem' scratch built → built ≡ Ok size → mem'' ≡ sets mem' (slot_at (length lists)) (slot_numbers ms)
    → Stack mem lists → Stack mem'' (ms ∷ lists)
stack_built ms lists few room f o e copied st =
    let z = answer_made ms (sym e ∙ o.answered) in
    let v = outcome-put o z.fits in
    stack_push ms lists z.small f (omega (arith, length-put v)) (record { wrote = copied; next_is = refl }) (stack-below v lists (omega arith) st)
