-- `words::word_end` meets its contract. Assumes nothing.
use Rattle.std.proofs.Common.{arith}
use Rattle.words.proofs.Split.{past_end, rest_within}
use Rattle.words.proofs.word_end.Goals as goal

pub returns-then-line-at : goal.returns-then-line-at
returns-then-line-at c = past_end _ _ c.if-line-at.true

pub overflow_add-result : goal.overflow_add-result
overflow_add-result c = record { fits = omega (arith, rest_within c.args.line.now c.args.at c.word_length.result c.if-line-at.false c.word_length.ensures) }
