use mathlib.Core.Path.{sym, ap₂}
use Prim.Native.Nat.{◌+◌}
use Rattle.strings.proofs.StringsLaws.{length-strs_at}
use Rattle.store.proofs.lent.Lent.strings.Goals as goal

pub returns : goal.returns
returns c = ap₂ ◌+◌ (sym (length-strs_at c.args.self.includes.now)) (sym (length-strs_at c.args.self.excludes.now))
