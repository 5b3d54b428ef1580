-- `row_numbers::numbers_of` meets its contract: i numbers are there. Assumes nothing.
use Rattle.row_numbers.specs.Numbers.{Numbered}
use Rattle.row_numbers.proofs.numbers_of.Given as goal

abbrev pub invariant-loop-i : goal.invariant-loop-i
invariant-loop-i l = Numbered l.table l.row l.i l.numbers
