-- `commands::parse_command` meets its contract, by the line's first word. Assumes nothing.
use borrow.Author.Rules.{rules}
use Rattle.commands.proofs.FirstWord.{lines}
use Rattle.commands.proofs.parse_command.Goals as goal

pub returns-then-line-gt-LONGEST_COMMAND : goal.returns-then-line-gt-LONGEST_COMMAND
returns-then-line-gt-LONGEST_COMMAND c = search (rules, lines)

pub parse_kind-requires : goal.parse_kind-requires
parse_kind-requires c = search (rules, lines)

pub returns : goal.returns
returns c = search (rules, lines)
