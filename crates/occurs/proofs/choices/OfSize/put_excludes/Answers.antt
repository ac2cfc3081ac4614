-- Nothing; one find; or both finds and then one of them again, each after the other (ExcludesLaws).
use mathlib.Core.Path.{◌≡◌, ap}
use native.Mathlib.Omega.{arith}
use Rattle.occurs.specs.WithNot.{excess_of}
use Rattle.occurs.proofs.ExcludesLaws.{no_exclude, single, one-exclude, first, second, third, three_excludes}
use Rattle.occurs.proofs.choices.OfSize.put_excludes.Goals as goal
use Rattle.occurs.proofs.choices.OfSize.put_excludes.Goals.{In-Both}

pub returns-in-No : goal.returns-in-No
returns-in-No c w = no_exclude w (ap excess_of c.in-No.is)

pub put_exclude-requires : goal.put_exclude-requires
put_exclude-requires c = single c.requires (ap excess_of c.in-One.is)

pub returns-in-One : goal.returns-in-One
returns-in-One c w = one-exclude w (ap excess_of c.in-One.is) c.put_exclude.ensures

none : (c : In-Both) → excess_of c.args.self.excess ≡ 0 → ⊥
none c e = let two : excess_of c.args.self.excess ≡ 2 = ap excess_of c.in-Both.is in omega arith

one : (c : In-Both) → excess_of c.args.self.excess ≡ 1 → ⊥
one c e = let two : excess_of c.args.self.excess ≡ 2 = ap excess_of c.in-Both.is in omega arith

pub put_exclude-second-requires : goal.put_exclude-second-requires
put_exclude-second-requires c = let p = (goal.at.put_exclude-second-requires c).In-Both in first c.requires (none p) (one p)

pub put_exclude-third-requires : goal.put_exclude-third-requires
put_exclude-third-requires c = let p = (goal.at.put_exclude-third-requires c).In-Both in second c.requires (none p) (one p) c.put_exclude-second.ensures

pub put_exclude-requires-in-Both : goal.put_exclude-requires-in-Both
put_exclude-requires-in-Both c =
    let p = (goal.at.put_exclude-requires-in-Both c).In-Both in
    third c.requires (none p) (one p) c.put_exclude-second.ensures c.put_exclude-third.ensures

pub returns-in-Both : goal.returns-in-Both
returns-in-Both c w =
    let p = (goal.at.returns-in-Both c).In-Both in
    three_excludes w (none p) (one p) c.put_exclude-second.ensures c.put_exclude-third.ensures c.put_exclude-in-Both.ensures
