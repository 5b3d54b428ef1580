-- `row_numbers::numbers_of` meets its contract: i numbers are there. Assumes nothing.
use borrow.Author.Rules.{rules}
use Rattle.row_numbers.proofs.Loads.{report_loaded}
use Rattle.row_numbers.proofs.Rows.{numbering}
use Rattle.row_numbers.proofs.numbers_of.Goals as goal

pub loop-i-init : goal.loop-i-init
loop-i-init c = search (rules, numbering)

pub number_at-requires : goal.number_at-requires
number_at-requires c = (search rules, search (rules, report_loaded), search rules, search rules)

pub loop-i-preserved : goal.loop-i-preserved
loop-i-preserved c = search (rules, numbering)

pub returns : goal.returns
returns c = search (rules, numbering)
