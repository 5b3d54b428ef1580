-- `roster_survey::is_adjacent` meets its contract. Assumes nothing.
use Rattle.std.proofs.Common.{rules}
use Rattle.basis.proofs.Branch.{branch}
use Rattle.entries.specs.Entry.{entry_of}
use Rattle.roster_survey.proofs.is_adjacent.Goals as goal

pub returns-then-rest-from : goal.returns-then-rest-from
unfolding entry_of
returns-then-rest-from c = search (rules, branch)

pub returns-else-rest-from : goal.returns-else-rest-from
unfolding entry_of
returns-else-rest-from c = search (rules, branch)
