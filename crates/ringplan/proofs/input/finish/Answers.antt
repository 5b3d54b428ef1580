-- `ringplan::input::finish` meets its contract. Assumes nothing.
use borrow.Author.Rules.{rules}
use Rattle.ringplan.proofs.Turns.{ending}
use Rattle.ringplan.proofs.input.finish.Goals as goal

pub returns-then-held-eq0 : goal.returns-then-held-eq0
returns-then-held-eq0 c = search (rules, ending)

pub slice_bounds-run_line-end : goal.slice_bounds-run_line-end
slice_bounds-run_line-end c = search (rules, ending)

pub run_line-requires : goal.run_line-requires
run_line-requires c = search (rules, ending)

pub returns : goal.returns
returns c = search (rules, ending)
