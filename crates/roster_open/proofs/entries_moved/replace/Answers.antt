-- `roster_open::replace` meets its contract. Assumes nothing.
use Rattle.std.proofs.Common.{rules}
use Rattle.roster_open.proofs.Replaced.{replace_at, replace_none}
use Rattle.roster_open.proofs.entries_moved.replace.Goals as goal

pub returns-in-Some : goal.returns-in-Some
returns-in-Some c = search (rules, replace_at)

pub returns-in_default : goal.returns-in_default
returns-in_default c = replace_none _ _ _ _ c.in_default.ensures
