-- `hex_text::value` meets its contract. Assumes nothing.
use Rattle.std.proofs.Common.{rules}
use Rattle.hex_text.proofs.OneDigit.{digits}
use Rattle.hex_text.proofs.value.Goals as goal

pub returns-then-numeral-lt10 : goal.returns-then-numeral-lt10
returns-then-numeral-lt10 c = search (rules, digits)

pub returns-else-numeral-lt10 : goal.returns-else-numeral-lt10
returns-else-numeral-lt10 c = search (rules, digits)
