-- `roster_survey::can_join` meets its contract. Assumes nothing.
use Rattle.std.proofs.Common.{rules}
use Rattle.roster_survey.proofs.Joined.{joined}
use Rattle.roster_survey.proofs.can_join.Goals as goal

pub returns-then-not-is_lit : goal.returns-then-not-is_lit
returns-then-not-is_lit c = search (rules, joined)

pub returns-else-not-is_lit : goal.returns-else-not-is_lit
returns-else-not-is_lit c = search (rules, joined)
