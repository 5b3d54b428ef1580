-- `desk::run_line` meets its contract. Assumes nothing.
use borrow.Author.Rules.{rules}
use Rattle.requests.proofs.Few.{lending}
use Rattle.desk.proofs.Opens.{opens}
use Rattle.desk.proofs.Running.{line_run, bad_run}
use Rattle.desk.proofs.run_line.Goals as goal

pub slice_bounds-ports-end : goal.slice_bounds-ports-end
slice_bounds-ports-end c = search (rules, lending)

pub slice_bounds-run_ring-end : goal.slice_bounds-run_ring-end
slice_bounds-run_ring-end c = search (rules, lending)

pub returns-in-Ring : goal.returns-in-Ring
returns-in-Ring c = search (rules, line_run, opens)

pub returns-in-Open : goal.returns-in-Open
returns-in-Open c = search (rules, line_run, opens)

pub returns-in-Close : goal.returns-in-Close
returns-in-Close c = search (rules, line_run, opens)

pub returns-in-Bad : goal.returns-in-Bad
returns-in-Bad c = search (rules, bad_run, opens)
