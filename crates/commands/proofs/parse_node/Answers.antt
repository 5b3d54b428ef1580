-- `commands::parse_node` meets its contract. Assumes nothing.
use borrow.Author.Rules.{rules}
use Rattle.commands.specs.Command.{node_command}
use Rattle.words.proofs.Parse.{parsing}
use Rattle.commands.proofs.Asked.{asked}
use Rattle.commands.proofs.parse_node.Goals as goal

pub returns-in_err-node : goal.returns-in_err-node
unfolding node_command
returns-in_err-node c = λ asking. search (rules, parsing, asked)

pub returns-then-at-line : goal.returns-then-at-line
unfolding node_command
returns-then-at-line c = λ asking. search (rules, parsing, asked)

pub returns : goal.returns
unfolding node_command
returns c = λ asking. search (rules, parsing, asked)
