-- `inventory::put_link` meets its contract. Assumes nothing.
use borrow.Author.Rules.{rules}
use Rattle.inventory.proofs.Words.{lines}
use Rattle.inventory.proofs.put_link.Goals as goal

pub overflow_cast-answer : goal.overflow_cast-answer
overflow_cast-answer c = search (rules, lines)

pub put_filled-requires : goal.put_filled-requires
put_filled-requires c = search (rules, lines)

pub shape_of-out-then-answer-lt-NO_CIRCUIT : goal.shape_of-out-then-answer-lt-NO_CIRCUIT
shape_of-out-then-answer-lt-NO_CIRCUIT c = search (rules, lines)

pub returns-then-answer-lt-NO_CIRCUIT : goal.returns-then-answer-lt-NO_CIRCUIT
returns-then-answer-lt-NO_CIRCUIT c = search (rules, lines)

pub put_text-requires : goal.put_text-requires
put_text-requires c = search (rules, lines)

pub shape_of-out-then-answer-eq-NO_CIRCUIT : goal.shape_of-out-then-answer-eq-NO_CIRCUIT
shape_of-out-then-answer-eq-NO_CIRCUIT c = search (rules, lines)

pub returns-then-answer-eq-NO_CIRCUIT : goal.returns-then-answer-eq-NO_CIRCUIT
returns-then-answer-eq-NO_CIRCUIT c = search (rules, lines)

pub overflow_cast-answer-2 : goal.overflow_cast-answer-2
overflow_cast-answer-2 c = search (rules, lines)

pub put_filled-requires-2 : goal.put_filled-requires-2
put_filled-requires-2 c = search (rules, lines)

pub shape_of-out : goal.shape_of-out
shape_of-out c = search (rules, lines)

pub returns : goal.returns
returns c = search (rules, lines)
