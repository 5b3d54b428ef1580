-- `causes::nodes_verdict` meets its contract. Assumes nothing.
use Rattle.refusals.proofs.Judged.{verdict}
use Rattle.causes.proofs.nodes_verdict.Goals as goal

pub returns-then-off_ring : goal.returns-then-off_ring
returns-then-off_ring c = search verdict depth 8

pub returns-then-circuit : goal.returns-then-circuit
returns-then-circuit c = search verdict depth 8

pub returns : goal.returns
returns c = search verdict depth 8
