-- `commands::parse_link` meets its contract. Assumes nothing.
use borrow.Author.Rules.{rules}
use Rattle.commands.specs.Command.{link_command}
use Rattle.words.proofs.Parse.{parsing}
use Rattle.commands.proofs.parse_link.Goals as goal

pub returns-in_err-link : goal.returns-in_err-link
unfolding link_command
returns-in_err-link c = search (rules, parsing)

pub returns-in_err-wavelength : goal.returns-in_err-wavelength
unfolding link_command
returns-in_err-wavelength c = search (rules, parsing)

pub returns-in_err-direction : goal.returns-in_err-direction
unfolding link_command
returns-in_err-direction c = search (rules, parsing)

pub returns : goal.returns
unfolding link_command
returns c = search (rules, parsing, c.in_ok-link.ensures, c.in_ok-wavelength.ensures, c.in_ok-direction.ensures) depth 7
