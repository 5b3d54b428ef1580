-- `commands::parse_grid` meets its contract. Assumes nothing.
use borrow.Author.Rules.{rules}
use Rattle.commands.specs.Command.{grid_command}
use Rattle.words.proofs.Parse.{parsing}
use Rattle.commands.proofs.Asked.{asked}
use Rattle.commands.proofs.parse_grid.Goals as goal

pub returns-in_err-spacing : goal.returns-in_err-spacing
unfolding grid_command
returns-in_err-spacing c = λ asking. search (rules, parsing, asked)

pub returns-in_err-start : goal.returns-in_err-start
unfolding grid_command
returns-in_err-start c = λ asking. search (rules, parsing, asked)

pub returns-in_err-last : goal.returns-in_err-last
unfolding grid_command
returns-in_err-last c = λ asking. search (rules, parsing, asked)

pub returns-then-at-line : goal.returns-then-at-line
unfolding grid_command
returns-then-at-line c = λ asking. search (rules, parsing, asked)

pub returns : goal.returns
unfolding grid_command
returns c = λ asking. search (rules, parsing, asked, c.in_ok-spacing.ensures, c.in_ok-start.ensures, c.in_ok-last.ensures) depth 8
