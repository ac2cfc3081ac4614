-- The function does nothing: what it ensures is each demand, proved in a file of its own.
use Rattle.theorems.proofs.Demand1.{demand_1}
use Rattle.theorems.proofs.Demand2.{demand_2}
use Rattle.theorems.proofs.Demand3.{demand_3}
use Rattle.theorems.proofs.TypedSearches.{typed_searches}
use Rattle.theorems.proofs.SpansRead.{spans-read}
use Rattle.theorems.proofs.OccursChosen.{occurs-chosen}
use Rattle.theorems.proofs.EarlyWayOut.{early_way_out}
use Rattle.theorems.proofs.Headings.{headings}
use Rattle.theorems.proofs.WordFamilies.{word-families}
use Rattle.theorems.proofs.demands_hold.Goals as goal

pub returns : goal.returns
returns c = record { demand1 = demand_1; demand2 = demand_2; demand3 = demand_3; typed_searches = typed_searches; spans_read = spans-read; occurs_chosen = occurs-chosen; early_way_out = early_way_out; headings = headings; word_families = word-families }
