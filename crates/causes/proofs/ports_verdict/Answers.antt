-- `causes::ports_verdict` meets its contract. Assumes nothing.
use Rattle.refusals.proofs.Judged.{verdict}
use Rattle.causes.proofs.Fields.{above, within}
use Rattle.causes.proofs.ports_verdict.Goals as goal

pub returns-then-not-counts_hold : goal.returns-then-not-counts_hold
returns-then-not-counts_hold c = search verdict

pub returns-then-port_total-gt-MOST_TOTAL : goal.returns-then-port_total-gt-MOST_TOTAL
returns-then-port_total-gt-MOST_TOTAL c = search (verdict, above)

pub returns : goal.returns
returns c = search (verdict, within)
