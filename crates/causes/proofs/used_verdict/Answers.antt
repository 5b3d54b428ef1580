-- `causes::used_verdict` meets its contract. Assumes nothing.
use Rattle.refusals.proofs.Judged.{verdict}
use Rattle.causes.proofs.used_verdict.Goals as goal

pub returns-then-seen-gt0 : goal.returns-then-seen-gt0
returns-then-seen-gt0 c = search verdict depth 8

pub returns-then-not-port_free : goal.returns-then-not-port_free
returns-then-not-port_free c = search verdict depth 8

pub returns-then-not-port_free-2 : goal.returns-then-not-port_free-2
returns-then-not-port_free-2 c = search verdict depth 8

pub returns : goal.returns
returns c = search verdict depth 8
