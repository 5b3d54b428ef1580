-- `Roster::stands` meets its contract. Assumes nothing.
use Rattle.std.proofs.Common.{rules}
use Rattle.roster.proofs.Building.{standing}
use Rattle.roster.proofs.Roster.stands.Goals as goal

pub returns-then-from-gt-MOST_CIRCUITS : goal.returns-then-from-gt-MOST_CIRCUITS
returns-then-from-gt-MOST_CIRCUITS c = search (rules, standing)

pub returns-then-meets_rules : goal.returns-then-meets_rules
returns-then-meets_rules c = search (rules, standing)

pub returns-else-meets_rules : goal.returns-else-meets_rules
returns-else-meets_rules c = search (rules, standing)
