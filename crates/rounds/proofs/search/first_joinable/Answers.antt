-- `rounds::search::first_joinable` meets its contract. Assumes nothing.
use Rattle.std.proofs.Common.{rules}
use Rattle.rounds.proofs.Seek.{not_alone, row_none, pair_none, seek}
use Rattle.rounds.proofs.search.first_joinable.Goals as goal

pub loop-p-init : goal.loop-p-init
loop-p-init c = search (rules, seek)

pub loop-p-preserved-in_default : goal.loop-p-preserved-in_default
loop-p-preserved-in_default c = row_none c.loop-p.invariant c.loop-p-test.true (not_alone _ c.in_default.not-Alone)

pub loop-q-init : goal.loop-q-init
loop-q-init c = search (rules, seek)

pub loop-q-preserved-in_default-slot : goal.loop-q-preserved-in_default-slot
loop-q-preserved-in_default-slot c = pair_none c.loop-q.invariant c.loop-q-test.true (not_alone _ c.in_default-slot.not-Alone)

pub returns-then-joinable : goal.returns-then-joinable
returns-then-joinable c = search (rules, seek)

pub loop-q-preserved : goal.loop-q-preserved
loop-q-preserved c = search (rules, seek)

pub loop-p-preserved : goal.loop-p-preserved
loop-p-preserved c = search (rules, seek)

pub returns : goal.returns
returns c = search (rules, seek)
