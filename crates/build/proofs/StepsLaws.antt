-- The rule's list goes to the slot of the first list that it takes: what is written there leaves those below, so it waits after them.
use Prim.Native.Nat.{ℕ, ◌+◌, ◌-◌, ◌*◌, ◌≤◌, ◌<◌}
use native.Mathlib.Omega.{arith}
use mathlib.Core.Path.{◌≡◌, sym, ap, ◌∙◌, subst}
use mathlib.Core.List.{List, ◌∷◌, map}
use lib.ListN.{length}
use lib.Seq.{sets}
use Rattle.model.specs.declared.Pair.{Pair}
use Rattle.model.specs.declared.Times.{Times}
use Rattle.model.specs.AllMatches.{occurs_list, pair_list}
use Rattle.model.specs.AllStrings.{AllList}
use Rattle.model.specs.Limits.{max_waiting, work_length}
use Rattle.model.specs.Matches.{Match}
use Rattle.store.specs.Built.{Built, made, over}
use Rattle.store.specs.ValidStr.{ValidStr}
use Rattle.store.specs.Layout.{scratch, slot_at, slot_numbers, slot_size}
use Rattle.store.specs.Outcome.{Outcome}
use Rattle.store.specs.Indices.{SlotBelow}
use Rattle.store.specs.Slot.{SlotHolds, SlotAt, TwoSlots}
use Rattle.store.specs.Stack.{Stack}
use Rattle.store.proofs.SlotsLaws.{answer_made, outcome-put, outcome-slot}
use Rattle.store.proofs.StackLaws.{stack-last, stack-rest, stack_push, stack_built}
use Rattle.occurs.specs.Finds.{find, FindsAt}
use Rattle.build.specs.Steps.{NoneTaken, OneTaken, FindsTaken, TwoTaken, InScratch, Pushed}

-- a list that a rule has put after the rest waits there
pub pushed : {mem mem' : List ℕ} {built : Built} (ms : List Match) (rest : List (List Match)) → length rest < max_waiting → work_length ≤ length mem
    → AllList ValidStr ms → Stack mem rest → Outcome ms mem mem' (slot_at (length rest)) built → Pushed ms rest mem' built
pushed ms rest few room f st o =
    record {
      answered = o.answered;
      waits = λ m s e. let z = answer_made ms (sym e ∙ o.answered) in stack_push ms rest z.small f (omega arith) (outcome-put o z.fits) st;
    }

-- ---- InScratch

module _ {mem : List ℕ} {at : ℕ} {built : Built} (w : InScratch mem at built) where
  -- where the list is made, it lies in the slot to build in ..
  unfoldable pub scratch-slot : {m s : ℕ} → built ≡ made m s → SlotAt mem scratch
  scratch-slot e = record { list = w.list; slot = outcome-slot w.outcome e w.valid (omega (arith, w.room)) }

  pub scratch-below : at + slot_size ≤ scratch
  scratch-below = omega (arith, w.place, w.few)

  -- .. and once it is copied it waits
  pub scratch-copied : {mem' : List ℕ} {m s : ℕ} (e : built ≡ made m s) → ((v : SlotAt mem scratch) → mem' ≡ sets mem at (slot_numbers v.list)) → Pushed w.list w.rest mem' built
  unfolding scratch-slot
  scratch-copied {mem'} e copied =
      let c : mem' ≡ sets mem (slot_at (length w.rest)) (slot_numbers w.list) = copied (scratch-slot e) ∙ ap (λ (i : ℕ). sets mem i (slot_numbers w.list)) w.place in
      record { answered = w.outcome.answered; waits = λ m s e'. stack_built w.list w.rest w.few w.room w.valid w.outcome e c w.stack }

  pub scratch-long : {mem' : List ℕ} → built ≡ over → Pushed w.list w.rest mem' built
  scratch-long t = record { answered = w.outcome.answered; waits = λ m s e. absurd (let z : ◌≡◌ {A = ℕ} 0 1 = cc in omega arith) }

-- ---- a rule that takes none

module _ {new : List Match} {mem : List ℕ} {lists : ℕ} (w : NoneTaken new mem lists) where
  pub none-room : lists * slot_size + slot_size ≤ length mem
  none-room = omega (arith, w.few, w.room)

  pub none_pushed : {mem' : List ℕ} {built : Built} → Outcome new mem mem' (lists * slot_size) built → Pushed new w.rest mem' built
  none_pushed {mem'} {built} o =
      let at : lists * slot_size ≡ slot_at (length w.rest) = omega (arith, w.count) in
      pushed new w.rest (omega (arith, w.count, w.few)) w.room w.valid w.stack (subst (λ (i : ℕ). Outcome new mem mem' i built) at o)

-- ---- a rule that takes the last list

module _ {rule : List Match → List Match} {mem : List ℕ} {lists : ℕ} (w : OneTaken rule mem lists) where
  unfoldable pub one-slot : SlotAt mem ((lists - 1) * slot_size)
  one-slot =
      let at : slot_at (length w.rest) ≡ (lists - 1) * slot_size = omega (arith, w.count) in
      record { list = w.list; slot = subst (λ (i : ℕ). SlotHolds mem i w.list) at (stack-last mem w.list w.rest w.stack) }

  pub one_under : SlotBelow (length mem) ((lists - 1) * slot_size) scratch
  one_under = record { below = omega (arith, w.few); room = omega (arith, w.room) }

  unfoldable pub one-outcome : {mem' : List ℕ} {built : Built} → Outcome (rule w.list) mem mem' scratch built → InScratch mem' ((lists - 1) * slot_size) built
  one-outcome o =
      record {
        list = rule w.list;
        rest = w.rest;
        before = mem;
        outcome = o;
        stack = stack-rest mem w.list w.rest w.stack;
        place = omega (arith, w.count);
        few = omega (arith, w.count, w.few);
        room = w.room;
        valid = w.valid;
      }

  module _ {mem' : List ℕ} {built : Built} (o : (v : SlotAt mem ((lists - 1) * slot_size)) → Outcome (rule v.list) mem mem' scratch built) where
    unfoldable pub one_in_scratch : InScratch mem' ((lists - 1) * slot_size) built
    unfolding one-slot
    one_in_scratch = one-outcome (o one-slot)

    pub one_moved : {mem'' : List ℕ} {b : Built} → ((v : InScratch mem' ((lists - 1) * slot_size) built) → Pushed v.list v.rest mem'' b) → Pushed (rule w.list) w.rest mem'' b
    unfolding one_in_scratch one-outcome
    one_moved f = f one_in_scratch

-- ---- a rule that takes the last list, a phrase's

module _ {rule : List Match → List Match} {mem : List ℕ} {lists : ℕ} (w : FindsTaken rule mem lists) where
  unfoldable pub finds-slot : FindsAt mem ((lists - 1) * slot_size)
  unfolding one-slot
  finds-slot = record { finds = w.finds; slot = subst (SlotHolds mem ((lists - 1) * slot_size)) w.finds_are (one-slot w.taken).slot }

  module _ {mem' : List ℕ} {built : Built} (o : (v : FindsAt mem ((lists - 1) * slot_size)) → Outcome (rule (map find v.finds)) mem mem' scratch built) where
    unfoldable pub finds_in_scratch : InScratch mem' ((lists - 1) * slot_size) built
    unfolding finds-slot
    finds_in_scratch = one-outcome w.taken (subst (λ (ms : List Match). Outcome (rule ms) mem mem' scratch built) (sym w.finds_are) (o finds-slot))

    pub finds_moved : {mem'' : List ℕ} {b : Built} → ((v : InScratch mem' ((lists - 1) * slot_size) built) → Pushed v.list v.rest mem'' b)
        → Pushed (rule w.taken.list) w.taken.rest mem'' b
    unfolding finds_in_scratch one-outcome
    finds_moved f = f finds_in_scratch

-- ---- a rule that takes the last two

module _ {rule : List Match → List Match → List Match} {mem : List ℕ} {lists : ℕ} (w : TwoTaken rule mem lists) where
  unfoldable pub two_slots : TwoSlots mem ((lists - 2) * slot_size) ((lists - 1) * slot_size)
  two_slots =
      let below = stack-rest mem w.rights (w.lefts ∷ w.rest) w.stack in
      let l : slot_at (length w.rest) ≡ (lists - 2) * slot_size = omega (arith, w.count) in
      let r : slot_at (length (w.lefts ∷ w.rest)) ≡ (lists - 1) * slot_size = omega (arith, w.count) in
      record {
        lefts = w.lefts;
        rights = w.rights;
        left = subst (λ (i : ℕ). SlotHolds mem i w.lefts) l (stack-last mem w.lefts w.rest below);
        right = subst (λ (i : ℕ). SlotHolds mem i w.rights) r (stack-last mem w.rights (w.lefts ∷ w.rest) w.stack);
      }

  pub two_unders : SlotBelow (length mem) ((lists - 2) * slot_size) scratch × SlotBelow (length mem) ((lists - 1) * slot_size) scratch
  two_unders = (record { below = omega (arith, w.few); room = omega (arith, w.room) }, record { below = omega (arith, w.few); room = omega (arith, w.room) })

  pub two-apart : (lists - 2) * slot_size + slot_size ≤ (lists - 1) * slot_size
  two-apart = omega (arith, w.count)

  -- the others wait all the time
  pub two-rest : Stack mem w.rest
  two-rest = stack-rest mem w.lefts w.rest (stack-rest mem w.rights (w.lefts ∷ w.rest) w.stack)

  -- `or` works in the left list's own slot
  pub two_pushed : {mem' : List ℕ} {built : Built} → ((v : TwoSlots mem ((lists - 2) * slot_size) ((lists - 1) * slot_size)) → Outcome (rule v.lefts v.rights) mem mem' ((lists - 2) * slot_size) built)
      → Pushed (rule w.lefts w.rights) w.rest mem' built
  unfolding two_slots
  two_pushed {mem'} {built} o =
      let list = rule w.lefts w.rights in
      let l : (lists - 2) * slot_size ≡ slot_at (length w.rest) = omega (arith, w.count) in
      pushed list w.rest (omega (arith, w.count, w.few)) w.room w.valid two-rest (subst (λ (i : ℕ). Outcome list mem mem' i built) l (o two_slots))

  module _ {mem' : List ℕ} {built : Built} (o : (v : TwoSlots mem ((lists - 2) * slot_size) ((lists - 1) * slot_size)) → Outcome (rule v.lefts v.rights) mem mem' scratch built) where
    unfoldable pub two_in_scratch : InScratch mem' ((lists - 2) * slot_size) built
    unfolding two_slots
    two_in_scratch =
        record {
          list = rule w.lefts w.rights;
          rest = w.rest;
          before = mem;
          outcome = o two_slots;
          stack = two-rest;
          place = omega (arith, w.count);
          few = omega (arith, w.count, w.few);
          room = w.room;
          valid = w.valid;
        }

    pub two_moved : {mem'' : List ℕ} {b : Built} → ((v : InScratch mem' ((lists - 2) * slot_size) built) → Pushed v.list v.rest mem'' b)
        → Pushed (rule w.lefts w.rights) w.rest mem'' b
    unfolding two_in_scratch
    two_moved f = f two_in_scratch

-- a combination by its name
module _ {k j : Pair} {mem : List ℕ} {lists : ℕ} (e : k ≡ j) (w : TwoTaken (pair_list k) mem lists) where
  unfoldable pub pair_as : TwoTaken (pair_list j) mem lists
  pair_as =
      record {
        lefts = w.lefts;
        rights = w.rights;
        rest = w.rest;
        stack = w.stack;
        count = w.count;
        few = w.few;
        room = w.room;
        valid = subst (λ (i : Pair). AllList ValidStr (pair_list i w.lefts w.rights)) e w.valid;
      }

  pub pair_pushed : {mem' : List ℕ} {built : Built} → ((v : TwoTaken (pair_list j) mem lists) → Pushed (pair_list j v.lefts v.rights) v.rest mem' built)
      → Pushed (pair_list k w.lefts w.rights) w.rest mem' built
  unfolding pair_as
  pair_pushed {mem'} {built} f = subst (λ (i : Pair). Pushed (pair_list i w.lefts w.rights) w.rest mem' built) (sym e) (f pair_as)

-- ---- an occurs by its numbers

pub by_times : {k j : Times} → k ≡ j → (ms : List Match) {mem mem' : List ℕ} {at : ℕ} {built : Built} → Outcome (occurs_list j ms) mem mem' at built
    → Outcome (occurs_list k ms) mem mem' at built
by_times e ms {mem} {mem'} {at} {built} o = subst (λ (i : Times). Outcome (occurs_list i ms) mem mem' at built) (sym e) o
