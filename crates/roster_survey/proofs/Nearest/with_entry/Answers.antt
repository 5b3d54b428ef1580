-- `roster_survey::Nearest::with_entry` meets its contract. Assumes nothing.
use Rattle.std.proofs.Common.{rules}
use Rattle.roster_survey.proofs.Joined.{joined}
use Rattle.roster_survey.proofs.Nearest.with_entry.Goals as goal

pub returns-then-not-is_adjacent : goal.returns-then-not-is_adjacent
returns-then-not-is_adjacent c = search (rules, joined)
